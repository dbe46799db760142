-- The choices that stand for others, one after another.
use Rattle.std.proofs.Common.{◌≡◌, ℕ, suc, ◌+◌, ◌-◌, ◌<◌, ◌≤◌, List, [], ◌∷◌, length, filter, min, true, false, cond, refl, sym, ◌∙◌, ap, arith, nat_eq, nat_le, nat_lt, ◌⊎◌, inl, inr}
use Rattle.std.specs.List.{AllByRecursion, range_with_len, sum}
use Rattle.std.proofs.lemmas.Bool.{and_left, le-leb, leb-true}
use Rattle.std.proofs.lemmas.Bool.Decides.{eqb_tells}
use Rattle.std.proofs.lemmas.List.Sums.{sum_by-cons}
use Rattle.weights.specs.Grouped.{choices, fits}
use Rattle.weights.specs.Labellings.{number_of_labellings}
use Rattle.weights.proofs.ChoiceLists.{IsChoice, choices-each}
use Rattle.weights.proofs.Filters.{all_append, all_map, all_weaker}
use Rattle.weights.proofs.Members.{Contains-filter, all_fronts, range-below}
use Rattle.weights.proofs.Sized.{first_and}
use Rattle.networks.proofs.Elements.{term-le-sum_by}
use Rattle.label_network.specs.ChoiceOrder.{later_choices}
use Rattle.label_network.specs.LabelSteps.{least}
use Rattle.label_network.proofs.LaterChoices.{least-first}
use Rattle.sorted_tables.specs.GatheredChoices.{gathered_weight, gets_less, is_gathered, is_gathered_into}
use Rattle.sorted_tables.proofs.GatheredForms.{Rise, gathered-risen, less-not}
use Rattle.sorted_tables.proofs.GatheredSums.{choice-among}

-- those after a choice are choices

pub later-each : (c : ℕ) (r x : List ℕ) → IsChoice c r x → AllByRecursion (IsChoice c r) (later_choices c r x)
later-each c [] x o = tt
later-each c (r ∷ rs) [] o = tt
later-each c (r ∷ rs) (a ∷ x) o =
    let both = first_and (nat_le a r) (fits x rs) o.fitting in
    let most : a ≤ r = leb-true a r both.0 in
    let whole : a + sum x ≡ c = sym (sum_by-cons (λ v. v) a x) ∙ o.whole in
    let inner : IsChoice (c - a) rs x = record { long = omega (arith, o.long); whole = omega (arith, whole); fitting = both.1 } in
    all_append (IsChoice c (r ∷ rs)) _ _
    (all_map (IsChoice c (r ∷ rs)) (λ y. a ∷ y) (later_choices (c - a) rs x) (all_weaker (IsChoice (c - a) rs) (λ y. IsChoice c (r ∷ rs) (a ∷ y)) (λ y p. longer a y (omega (arith, whole)) most p) (later_choices (c - a) rs x) (later-each (c - a) rs x inner)))
    (all_fronts (IsChoice c (r ∷ rs)) (λ b. b < (a + 1) + (min c r - a)) (λ b. choices (c - b) rs)
    (λ b h. all_weaker (IsChoice (c - b) rs) (λ y. IsChoice c (r ∷ rs) (b ∷ y)) (λ y p. longer b y (omega (arith, h, whole, most)) (omega (arith, h, whole, most)) p) (choices (c - b) rs) (choices-each (c - b) rs))
    (range_with_len (a + 1) (min c r - a)) (range-below (a + 1) (min c r - a)))
  where
    longer : (b : ℕ) (y : List ℕ) → b ≤ c → b ≤ r → IsChoice (c - b) rs y → IsChoice c (r ∷ rs) (b ∷ y)
    longer b y l h p = record {
      long = ap suc p.long;
      whole = sum_by-cons (λ v. v) b y ∙ omega (arith, p.whole, l);
      fitting = rw (le-leb b r h, p.fitting) refl;
    }

-- the first choice gives as little as it can to each row in turn, and so no less to a later row of equal size

length-least : (c : ℕ) (r : List ℕ) → length (least c r) ≡ length r
length-least c [] = refl
length-least c (r ∷ rs) = ap suc (length-least (min c (sum rs)) rs)

rise-least : (c : ℕ) (r : List ℕ) → c ≤ sum r → Rise r (least c r)
rise-least c [] h = tt
rise-least c (q ∷ []) h = tt
rise-least c (q ∷ s ∷ rs) h =
    let all : sum (q ∷ s ∷ rs) ≡ q + sum (s ∷ rs) = sum_by-cons (λ v. v) q (s ∷ rs) in
    let later : sum (s ∷ rs) ≡ s + sum rs = sum_by-cons (λ v. v) s rs in
    (not_less (omega (arith, h, all)) later (eqb_tells s q), rise-least (min c (sum (s ∷ rs))) (s ∷ rs) (omega arith))
  where
    not_less : c ≤ q + sum (s ∷ rs) → sum (s ∷ rs) ≡ s + sum rs → ((nat_eq s q ≡ true) × (s ≡ q)) ⊎ ((nat_eq s q ≡ false) × (s ≡ q → ⊥)) → gets_less s (min c (sum (s ∷ rs)) - sum rs) q (c - sum (s ∷ rs)) ≡ false
    not_less h later (inl e) = less-not s q (min c (sum (s ∷ rs)) - sum rs) (c - sum (s ∷ rs)) (omega (arith, h, later, e.1))
    not_less h later (inr e) = and_left (nat_eq s q) (nat_lt (min c (sum (s ∷ rs)) - sum rs) (c - sum (s ∷ rs))) e.0

pub first-gathered : (c : ℕ) (r : List ℕ) → c ≤ sum r → filter (is_gathered r) (choices c r) ≡ least c r ∷ filter (is_gathered r) (later_choices c r (least c r))
first-gathered c r h =
    ap (filter (is_gathered r)) (least-first c r h)
    ∙ ap (λ b. cond b (least c r ∷ filter (is_gathered r) (later_choices c r (least c r))) (filter (is_gathered r) (later_choices c r (least c r)))) (gathered-risen r (least c r) (length-least c r) (rise-least c r h))

-- a choice that stands for others weighs no less than itself
pub weighs-itself : (c : ℕ) (r y : List ℕ) → IsChoice c r y → is_gathered r y ≡ true → number_of_labellings y ≤ gathered_weight r y
weighs-itself c r y o g =
    term-le-sum_by number_of_labellings (filter (is_gathered_into r y) (choices (sum y) r)) y
    (Contains-filter (is_gathered_into r y) y (choices (sum y) r) (choice-among (sum y) r y (record { long = o.long; whole = refl; fitting = o.fitting })) g)
