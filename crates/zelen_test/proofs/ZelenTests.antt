-- What holds of Zelen's test, and of what is kept of strata that are prepared for it.
use Rattle.std.proofs.Common.{◌≡◌, ℕ, nat_eq, ◌<◌, ◌≤◌, cond, List, [], ◌∷◌, Some, None, length, map, refl, sym, ◌∙◌, ap, subst, arith}
use Rattle.std.specs.Prelude.{ℤ, pos, filter, Contains}
use Rattle.std.specs.Cmp.Lexicographic.{pointwise}
use Rattle.std.specs.List.{sum_by}
use Rattle.std.proofs.lemmas.Bool.{eqb-true, le-ltb, lt-ltb}
use Rattle.std.proofs.lemmas.List.Sums.{count_by-le-length}
use Rattle.weights.specs.declared.tails.Tail.{Tail}
use Rattle.weights.specs.declared.tails.Tail.TheVariants.{Less, Greater, Two}
use Rattle.weights.specs.declared.TheConstants.{MAX}
use Rattle.weights.specs.declared.wide.WideOf.TheVariants.{Total}
use Rattle.weights.specs.Conditional.{observed_statistic, total}
use Rattle.weights.specs.Frames.{IsFrameOf}
use Rattle.weights.specs.Rules.{RuleFits, rule_of}
use Rattle.weights.specs.Wide.{too_wide}
use Rattle.weights.proofs.Centred.{at_least-fits, at_most-fits}
use Rattle.weights.proofs.Sums.{sum_by-filter, sum_by-one}
use Rattle.networks.specs.Follows.{AllFollow, Follows}
use Rattle.networks.specs.Judged.{JudgeFits, judge_of, rule_in}
use Rattle.networks.specs.declared.verdicts.Judge.{Judge}
use Rattle.room_network.specs.RoomNetworks.{room_network}
use Rattle.room_network.proofs.RoomFollows.{room_follows}
use Rattle.strata_cells.specs.declared.stratum.Stratum.{Stratum}
use Rattle.strata_cells.specs.Strata.{cells_of, cells_weight, first_cells, greatest_cell, least_cell, own_labels, strata_labellings}
use Rattle.strata_cells.specs.StrataLimits.{AreSmall}
use Rattle.strata_cells.proofs.CellLaws.{cells_of-joined}
use Rattle.strata_cells.proofs.FirstCells.{own-cell, own-cells, own-long}
use Rattle.strata_cells.proofs.StrataSums.{sums-within}
use Rattle.zelen_test.specs.Zelen.{has_sum, observed_strata_labels, observed_sum_labellings, observed_sum_test, rarity}
use Rattle.zelen_test.specs.ZelenNetwork.{number_with, observed_sum_network, own_sum, zelen_meaning, zelen_weights}
use Rattle.zelen_test.specs.SumSteps.{AreSized}
use Rattle.zelen_test.specs.ZelenMade.{AreObserved, IsMember}
use Rattle.zelen_test.specs.ZelenSteps.{AreSummed, CanHave}
use Rattle.zelen_test.specs.declared.zelen.ObservedStrata.{ObservedStrata}
use Rattle.networks.proofs.Images.{filtered_from}
use Rattle.zelen_test.proofs.ZelenPlans.{cut, value-of, zelen_gives, zelen_measure, zelen_width}
use Rattle.zelen_test.proofs.Rarities.{AreCells, cells-long, member-cells, rarity-by, rarity-is}
use Rattle.zelen_test.proofs.LesserWeights.{number-some}

-- ---- the labels as they are

-- the first cells of the strata as they are
pub observed-cells : (strata : List Stratum) → cells_of strata (observed_strata_labels strata) ≡ map (λ (s : Stratum). s.a) strata
observed-cells [] = refl
observed-cells (s ∷ strata) =
    cells_of-joined s strata (own_labels s) (observed_strata_labels strata) (own-long s)
    ∙ ap (λ x. x ∷ cells_of strata (observed_strata_labels strata)) (own-cell s) ∙ ap (λ xs. s.a ∷ xs) (observed-cells strata)

pub own-cells_are : (strata : List Stratum) → AreCells strata (map (λ (s : Stratum). s.a) strata)
own-cells_are [] = tt
own-cells_are (s ∷ strata) = (least s, most s, own-cells_are strata)
  where
    least : (s : Stratum) → least_cell s ≤ s.a
    least s = omega arith

    most : (s : Stratum) → s.a ≤ greatest_cell s
    most s = omega arith

module _ (strata : List Stratum) where
  -- the observed sum can be had
  can-own : CanHave strata (own_sum strata)
  can-own = record {
    least = sums-within least_cell (λ s. s.a) (λ s. omega arith) strata;
    most = sums-within (λ s. s.a) greatest_cell (λ s. omega arith) strata;
  }

  -- ---- the total

  pub members-are : length (observed_sum_labellings strata) ≡ number_with strata (own_sum strata)
  members-are =
      sym (sum_by-one (observed_sum_labellings strata))
      ∙ sum_by-filter (λ r. 1) (has_sum strata (first_cells strata (observed_strata_labels strata))) (strata_labellings strata)
      ∙ ap (λ n. sum_by (λ r. cond (has_sum strata n r) 1 0) (strata_labellings strata)) (own-cells strata)

  pub total-is : total (observed_sum_test strata) ≡ number_with strata (own_sum strata)
  total-is = sum_by-one (observed_sum_labellings strata) ∙ members-are

  total-some : 1 ≤ total (observed_sum_test strata)
  total-some = omega (arith, total-is, number-some strata (own_sum strata) can-own)

  pub total-wide : MAX < number_with strata (own_sum strata) → too_wide (observed_sum_test strata) ≡ Some Total
  total-wide wide = rw (lt-ltb MAX (total (observed_sum_test strata)) (omega (arith, wide, total-is))) refl

  pub not-wide : number_with strata (own_sum strata) ≤ MAX → too_wide (observed_sum_test strata) ≡ None
  not-wide fits = rw (le-ltb MAX (total (observed_sum_test strata)) (omega (arith, fits, total-is))) refl

  -- ---- rarities

  rarity-member : (r : List ℕ) → Contains (observed_sum_labellings strata) r → rarity strata r ≡ cells_weight strata (cells_of strata r)
  rarity-member r m =
      let given : ℕ = first_cells strata (observed_strata_labels strata) in
      let both = filtered_from (has_sum strata given) r (strata_labellings strata) m in
      rarity-is strata r both.0 (eqb-true (first_cells strata r) given both.1)

  cells-member : (r : List ℕ) → Contains (observed_sum_labellings strata) r → AreCells strata (cells_of strata r)
  cells-member r m = member-cells strata r (filtered_from (has_sum strata (first_cells strata (observed_strata_labels strata))) r (strata_labellings strata) m).0

  pub observed-is : rarity strata (observed_strata_labels strata) ≡ cells_weight strata (map (λ (s : Stratum). s.a) strata)
  observed-is =
      rarity-by strata (observed_strata_labels strata) (subst (AreCells strata) (sym (observed-cells strata)) (own-cells_are strata)) refl
      ∙ ap (cells_weight strata) (observed-cells strata)

  -- ---- rules

  rule-fits : (tail : Tail) (v : ℤ) → RuleFits (rule_of (observed_sum_test strata) tail) v
  rule-fits Less v = at_most-fits (observed_statistic (observed_sum_test strata)) v
  rule-fits Greater v = at_least-fits (observed_statistic (observed_sum_test strata)) v
  rule-fits Two v = at_most-fits (pos (rarity strata (observed_strata_labels strata))) v

  judge-fits : (t : Tail) (v : ℤ) → RuleFits (rule_in (judge_of (observed_sum_test strata)) t) v
  judge-fits Less v = rule-fits Less v
  judge-fits Greater v = rule-fits Greater v
  judge-fits Two v = rule-fits Two v

  judges-fit : (v : ℤ) → JudgeFits (judge_of (observed_sum_test strata)) v
  judges-fit v = record { fits = λ t. judge-fits t v }

  -- ---- the network

  follows-two : Follows (observed_sum_test strata) Two (observed_sum_network strata)
  follows-two =
      room_follows (zelen_meaning strata (own_sum strata) (judge_of (observed_sum_test strata))) (zelen_weights strata) (zelen_width strata (own_sum strata)) (zelen_measure strata (own_sum strata) can-own (judge_of (observed_sum_test strata)))
      (observed_sum_test strata) Two (λ r. cut (cells_of strata r)) (record {
        judge_is = refl;
        gives = zelen_gives strata can-own;
        values = λ r m. ap pos (rarity-member r m) ∙ sym (value-of strata (own_sum strata) (judge_of (observed_sum_test strata)) (cells_of strata r) (cells-long strata (cells_of strata r) (cells-member r m)));
      })

  follows : AllFollow (observed_sum_test strata) (λ tail. observed_sum_network strata)
  follows Less has = absurd (cc has)
  follows Greater has = absurd (cc has)
  follows Two has = follows-two

-- ---- products of weights

module _ (strata : List Stratum) (fits : number_with strata (own_sum strata) ≤ MAX) where
  rarity-few : (r : List ℕ) → rarity strata r ≤ MAX
  rarity-few r = omega (arith, count_by-le-length (λ other. pointwise nat_eq (cells_of strata r) (cells_of strata other)) (observed_sum_labellings strata), members-are strata, fits)

  pub observed-weight : cells_weight strata (map (λ (s : Stratum). s.a) strata) ≤ MAX
  observed-weight = omega (arith, rarity-few (observed_strata_labels strata), observed-is strata)

-- ---- what is kept

-- strata with the sum that they have
pub summed : (strata : List Stratum) → AreSmall strata → length strata ≤ 10000 → AreSummed strata (own_sum strata)
summed strata small few = record { small = small; few = few; can = can-own strata }

pub observed : (strata : List Stratum) (made : ObservedStrata) → made.strata ≡ strata → made.sum ≡ own_sum strata → AreSized strata made.sizes → IsFrameOf (observed_sum_test strata) made.frame → number_with strata (own_sum strata) ≤ MAX → AreObserved strata made
observed strata made tables sum_is sized frame fits = record {
  tables = tables;
  sum_is = sum_is;
  sized = sized;
  frame_is = frame;
  fits = fits;
  summed = rw (tables, sum_is) (summed strata sized.small sized.few);
  members = ap (λ (ts : List Stratum). filter (has_sum ts made.sum) (strata_labellings ts)) tables ∙ ap (λ n. filter (has_sum strata n) (strata_labellings strata)) (sum_is ∙ sym (own-cells strata));
  some = omega (arith, members-are strata, number-some strata (own_sum strata) (can-own strata));
  total_is = frame.total ∙ total-is strata ∙ sym (members-are strata);
  total_some = total-some strata;
  bounded = omega (arith, fits, total-is strata);
  judged = judges-fit strata;
  follows = follows strata;
}

pub member : (strata : List Stratum) → number_with strata (own_sum strata) ≤ MAX → (r : List ℕ) → Contains (observed_sum_labellings strata) r → IsMember strata r
member strata fits r m = record {
  labelled = (filtered_from (has_sum strata (first_cells strata (observed_strata_labels strata))) r (strata_labellings strata) m).0;
  fits = omega (arith, rarity-few strata fits r, rarity-member strata r m);
  rarity_is = sym (rarity-member strata r m);
}

-- the network of the rooms and the measure that are built
pub network-same : (strata rooms measured : List Stratum) (given : ℕ) (judge : Judge) → rooms ≡ strata → measured ≡ strata → given ≡ own_sum strata → judge ≡ judge_of (observed_sum_test strata) → room_network (zelen_meaning measured given judge) (zelen_weights rooms) ≡ observed_sum_network strata
network-same strata rooms measured given judge a b d e = rw (a, b, d, e) refl
