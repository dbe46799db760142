-- The worked example keeps the laws, and its network follows the test.
use Rattle.std.proofs.Common.{◌≡◌, ℕ, ◌+◌, ◌*◌, ◌<◌, ◌≤◌, List, [], ◌∷◌, length, refl, ◌∙◌, ap, arith, lit≤}
use Rattle.std.specs.Prelude.{pos, slice_index, Contains}
use Rattle.std.specs.List.{AllByRecursion, concat}
use Rattle.std.proofs.lemmas.Int.{ints}
use Rattle.std.proofs.lemmas.List.Elements.{All-contains, All-from_recursion}
use Rattle.weights.specs.declared.tails.Tail.{Tail}
use Rattle.weights.specs.declared.tails.Tail.TheVariants.{Less, Greater, Two}
use Rattle.weights.specs.Frames.{IsShown, RulesFit}
use Rattle.weights.specs.Labellings.{sign_lists}
use Rattle.weights.specs.Rules.{RuleFits, measured, rule_of}
use Rattle.networks.specs.Addends.{sum_value_of}
use Rattle.networks.specs.SoundAddends.{IsAdditive}
use Rattle.networks.specs.declared.verdicts.Judge.{Judge}
use Rattle.networks.specs.Follows.{Follows}
use Rattle.networks.specs.Judged.{JudgeFits, judge_of}
use Rattle.networks.proofs.Following.{judge-fits}
use Rattle.worked_networks.specs.SignedRanks.{rank_sum, worked_addends, worked_network, worked_test}
use Rattle.networks.proofs.Apart.{two_apart}
use Rattle.networks.proofs.Judging.{fits-between}
use Rattle.networks.proofs.Parts.{IsStage, Pieces, product_weight, summed}
use Rattle.networks.proofs.Flat.{AllAt}
use Rattle.networks.proofs.AdditiveFollows.{additive_follows}

pub worked_additive : (judge : Judge) → JudgeFits judge (pos 0) → JudgeFits judge (pos 12) → IsAdditive (worked_addends judge)
worked_additive judge low high = record {
  slots_some = omega arith;
  slots_few = omega arith;
  some_choice = λ g b e. cc;
  different = λ g b. two_apart (0 ∷ []) (1 ∷ []) (λ e. (let sign : 0 ≡ 1 = ap (λ c. slice_index c 0) e in omega (arith, sign)));
  weighty = λ g c b m. omega arith;
  fits = lit≤ tt;
  between = λ g b. (record { wide = refl; between = ((omega (arith, ints), omega (arith, ints)), tt) }, (record { wide = refl; between = ((omega (arith, ints), omega (arith, ints)), tt) }, tt));
  sums_fit = lit≤ tt;
  measured = refl;
  low_fits = low;
  high_fits = high;
}

pub measured-is : (tail : Tail) (r : List ℕ) → measured worked_test tail r ≡ pos (rank_sum r)
measured-is Less r = refl
measured-is Greater r = refl
measured-is Two r = refl

pub fits-least : (tail : Tail) → RuleFits (rule_of worked_test tail) (pos 0)
fits-least Less = record { least_factor = lit≤ tt; observed = lit≤ tt; times = lit≤ tt; apart = lit≤ tt }
fits-least Greater = record { least_factor = lit≤ tt; observed = lit≤ tt; times = lit≤ tt; apart = lit≤ tt }
fits-least Two = record { least_factor = lit≤ tt; observed = lit≤ tt; times = lit≤ tt; apart = lit≤ tt }

pub fits-most : (tail : Tail) → RuleFits (rule_of worked_test tail) (pos 12)
fits-most Less = record { least_factor = lit≤ tt; observed = lit≤ tt; times = lit≤ tt; apart = lit≤ tt }
fits-most Greater = record { least_factor = lit≤ tt; observed = lit≤ tt; times = lit≤ tt; apart = lit≤ tt }
fits-most Two = record { least_factor = lit≤ tt; observed = lit≤ tt; times = lit≤ tt; apart = lit≤ tt }

-- so the test's rules fit the least and the greatest sum
pub least : (judge : Judge) → judge ≡ judge_of worked_test → JudgeFits judge (pos 0)
least judge e = judge-fits worked_test judge e (pos 0) fits-least

pub most : (judge : Judge) → judge ≡ judge_of worked_test → JudgeFits judge (pos 12)
most judge e = judge-fits worked_test judge e (pos 12) fits-most

all_small : AllByRecursion (λ r. rank_sum r ≤ 12) (sign_lists 3)
all_small = (lit≤ tt, (lit≤ tt, (lit≤ tt, (lit≤ tt, (lit≤ tt, (lit≤ tt, (lit≤ tt, (lit≤ tt, tt))))))))

pub worked_rules_fit : RulesFit worked_test
worked_rules_fit = record {
  fits = λ tail r m.
      (let small : rank_sum r ≤ 12 = All-contains (λ s. rank_sum s ≤ 12) (sign_lists 3) r (All-from_recursion (λ s. rank_sum s ≤ 12) (sign_lists 3) all_small) m in
      rw (measured-is tail r) (fits-between (rule_of worked_test tail) (pos 0) (pos (rank_sum r)) (pos 12) (omega (arith, ints)) (omega (arith, ints, small)) (fits-least tail) (fits-most tail)));
}

all_weigh : (rs : List (List ℕ)) → AllByRecursion (λ r. 1 ≤ 1) rs
all_weigh [] = tt
all_weigh (r ∷ rs) = (omega arith, all_weigh rs)

pub worked_shown : IsShown worked_test
worked_shown = record { has = refl; statistic_is = λ r. refl; weighty = all_weigh (sign_lists 3) }

-- a part is one sign
worked_pieces : Pieces
worked_pieces = record { mass = λ g x. 1; added = λ g x. pos (2 * (g + 1) * slice_index x 0) ∷ [] }

record IsSign (g : ℕ) (x : List ℕ) : Type 0 where
  early : g < 3
  one : length x ≡ 1

worked_parts : List (List (List ℕ))
worked_parts = sign_lists 1 ∷ sign_lists 1 ∷ sign_lists 1 ∷ []

stage : (judge : Judge) (g : ℕ) → IsStage (worked_addends judge) worked_pieces g (sign_lists 1)
unfolding worked_pieces
stage judge g = record { same = λ f. refl; closed = λ s i f. cc; wide = (refl, (refl, tt)) }

joined : (xs : List (List ℕ)) → AllAt IsSign 0 xs → pos (rank_sum (concat xs)) ≡ sum_value_of (worked_addends (judge_of worked_test)).value (summed worked_pieces.added 0 (pos 0 ∷ []) xs)
unfolding worked_pieces
joined [] h = refl
joined ((a ∷ []) ∷ []) h = ap pos (omega arith)
joined ((a ∷ []) ∷ (b ∷ []) ∷ []) h = ap pos (omega arith)
joined ((a ∷ []) ∷ (b ∷ []) ∷ (c ∷ []) ∷ []) h = ap pos (omega arith)
joined (x ∷ y ∷ z ∷ w ∷ ws) h = absurd (omega (arith, h.1.1.1.0.early))
joined ([] ∷ xs) h = absurd (omega (arith, h.0.one))
joined ((a ∷ a' ∷ rest) ∷ xs) h = absurd (omega (arith, h.0.one))
joined ((a ∷ []) ∷ [] ∷ xs) h = absurd (omega (arith, h.1.0.one))
joined ((a ∷ []) ∷ (b ∷ b' ∷ bs) ∷ xs) h = absurd (omega (arith, h.1.0.one))
joined ((a ∷ []) ∷ (b ∷ []) ∷ [] ∷ xs) h = absurd (omega (arith, h.1.1.0.one))
joined ((a ∷ []) ∷ (b ∷ []) ∷ (c ∷ c' ∷ cs) ∷ xs) h = absurd (omega (arith, h.1.1.0.one))

weighs : (g : ℕ) (xs : List (List ℕ)) → 1 ≡ product_weight worked_pieces.mass g xs
unfolding worked_pieces
weighs g [] = refl
weighs g (x ∷ xs) = omega (arith, weighs (g + 1) xs)

both : (g : ℕ) → g < 3 → AllByRecursion (IsSign g) (sign_lists 1)
both g early = (record { early = early; one = refl }, (record { early = early; one = refl }, tt))

pub worked_follows : (tail : Tail) → Follows worked_test tail (worked_network tail)
unfolding worked_pieces worked_parts
worked_follows tail =
    let judge : Judge = judge_of worked_test in
    additive_follows worked_test tail (worked_addends judge) worked_pieces IsSign worked_parts (worked_additive judge (least judge refl) (most judge refl)) (record {
      reference = refl;
      judge_is = refl;
      counted = refl;
      stages = (stage judge 0, (stage judge 1, (stage judge 2, tt)));
      each = (both 0 (omega arith), (both 1 (omega arith), (both 2 (omega arith), tt)));
      joined = record { measures = λ xs h. measured-is tail (concat xs) ∙ joined xs h; weighs = λ xs h. weighs 0 xs };
    })

-- a choice is one sign
pub sign_small : (c : List ℕ) → Contains ((0 ∷ []) ∷ (1 ∷ []) ∷ []) c → slice_index c 0 < 2
sign_small c m = All-contains (λ d. slice_index d 0 < 2) ((0 ∷ []) ∷ (1 ∷ []) ∷ []) c (All-from_recursion (λ d. slice_index d 0 < 2) ((0 ∷ []) ∷ (1 ∷ []) ∷ []) (omega arith, (omega arith, tt))) m
