-- The choices are the first one and those after it, and so for each choice.
use Rattle.std.proofs.Common.{◌≡◌, ℕ, zero, suc, ◌+◌, ◌-◌, ◌<◌, ◌≤◌, List, [], ◌∷◌, ◌++◌, map, min, Option, Some, None, refl, sym, ◌∙◌, ap, arith, nat_le, lt-ltb, le-ltb, ne_eqb, zero-add, inl, inr}
use Rattle.std.specs.List.{flat_map, sum, range_with_len}
use Rattle.std.proofs.lemmas.List.Sums.{sum_by-cons}
use Rattle.std.proofs.lemmas.Bool.Decides.{leb_tells}
use Rattle.std.proofs.lemmas.Grind.{flat_map-append}
use Rattle.weights.specs.Grouped.{fits, minus, choices}
use Rattle.label_network.specs.ChoiceOrder.{later_choices}
use Rattle.label_network.specs.LabelSteps.{least}
use Rattle.label_network.proofs.ChoiceSteps.{after_or, choice_after, choices_from}
use Rattle.weights.proofs.ChoiceLists.{IsChoice}
use Rattle.weights.proofs.Sized.{first_and, sum-minus}
use Rattle.weights.proofs.Ranges.{range-split}

-- the choices that begin with a count of a range
abbrev ranged : ℕ → List ℕ → ℕ → ℕ → List (List ℕ)
ranged c rs s n = flat_map (λ b. map (λ y. b ∷ y) (choices (c - b) rs)) (range_with_len s n)

ranged-none : (c s n : ℕ) (rs : List ℕ) → ((b : ℕ) → b < s + n → choices (c - b) rs ≡ []) → ranged c rs s n ≡ []
ranged-none c s zero rs h = refl
ranged-none c s (suc n) rs h = rw (h s (omega arith), ranged-none c (s + 1) n rs (λ b l. h b (omega arith))) refl

pub choices-none : (c : ℕ) (r : List ℕ) → sum r < c → choices c r ≡ []
choices-none c [] h = rw (ne_eqb c 0 (λ e. omega (arith, e))) refl
choices-none c (r ∷ rs) h =
    let all : sum (r ∷ rs) ≡ r + sum rs = sum_by-cons (λ v. v) r rs in
    ranged-none c 0 (min c r + 1) rs (λ b l. choices-none (c - b) rs (omega arith))

ranged-split : (c s n k : ℕ) (rs : List ℕ) → ranged c rs s (n + k) ≡ ranged c rs s n ++ ranged c rs (s + n) k
ranged-split c s n k rs = ap (flat_map (λ b. map (λ y. b ∷ y) (choices (c - b) rs))) (range-split s n k) ∙ flat_map-append (λ b. map (λ y. b ∷ y) (choices (c - b) rs)) (range_with_len s n) (range_with_len (s + n) k)

ranged-first : (c s n : ℕ) (rs x : List ℕ) → choices (c - s) rs ≡ x ∷ later_choices (c - s) rs x → ranged c rs s (suc n) ≡ (s ∷ x) ∷ (map (λ y. s ∷ y) (later_choices (c - s) rs x) ++ ranged c rs (s + 1) n)
ranged-first c s n rs x e = rw e refl

-- the first choice and those after it are the choices
pub least-first : (c : ℕ) (r : List ℕ) → c ≤ sum r → choices c r ≡ least c r ∷ later_choices c r (least c r)
least-first c [] h = let none : c ≡ 0 = omega arith in rw none refl
least-first c (r ∷ rs) h =
    let all : sum (r ∷ rs) ≡ r + sum rs = sum_by-cons (λ v. v) r rs in
    let parts : min c r + 1 ≡ (c - sum rs) + suc (min c r - (c - sum rs)) = omega arith in
    let before : ranged c rs 0 (c - sum rs) ≡ [] = ranged-none c 0 (c - sum rs) rs (λ b l. choices-none (c - b) rs (omega arith)) in
    let rest : c - (c - sum rs) ≡ min c (sum rs) = omega arith in
    let first : choices (c - (c - sum rs)) rs ≡ least (min c (sum rs)) rs ∷ later_choices (c - (c - sum rs)) rs (least (min c (sum rs)) rs) = rw rest (least-first (min c (sum rs)) rs (omega arith)) in
    ap (ranged c rs 0) parts
    ∙ ranged-split c 0 (c - sum rs) (suc (min c r - (c - sum rs))) rs
    ∙ ap (λ ys. ys ++ ranged c rs (0 + (c - sum rs)) (suc (min c r - (c - sum rs)))) before
    ∙ ap (λ s. ranged c rs s (suc (min c r - (c - sum rs)))) (zero-add (c - sum rs))
    ∙ ranged-first c (c - sum rs) (min c r - (c - sum rs)) rs (least (min c (sum rs)) rs) first

-- those after a choice are the next one and those after it
pub next-later : (c : ℕ) (r x : List ℕ) → IsChoice c r x → later_choices c r x ≡ choices_from c r (choice_after c r x)
next-later c [] x o = refl
next-later c (r ∷ rs) [] o = refl
next-later c (r ∷ rs) (a ∷ x) o =
    let both = first_and (nat_le a r) (fits x rs) o.fitting in
    let whole : a + sum x ≡ c = sym (sum_by-cons (λ v. v) a x) ∙ o.whole in
    let inner : IsChoice (c - a) rs x = record { long = omega (arith, o.long); whole = omega arith; fitting = both.1 } in
    let room : sum x + sum (minus rs x) ≡ sum rs = sum-minus rs x both.1 in
    by (choice_after (c - a) rs x) (next-later (c - a) rs x inner) (omega arith)
  where
    by : (o : Option (List ℕ)) → later_choices (c - a) rs x ≡ choices_from (c - a) rs o → c - a ≤ sum rs → map (λ y. a ∷ y) (later_choices (c - a) rs x) ++ ranged c rs (a + 1) (min c r - a) ≡ choices_from c (r ∷ rs) (after_or o a c r rs)
    by (Some y) e h = rw e refl
    by None e h = rw e (elim (leb_tells (min c r) a) [
      | inr l ↦ rw (lt-ltb a (min c r) l.1) (
          let more : min c r - a ≡ suc (min c r - (a + 1)) = omega (arith, l.1) in
          ap (ranged c rs (a + 1)) more
          ∙ ranged-first c (a + 1) (min c r - (a + 1)) rs (least (c - (a + 1)) rs) (least-first (c - (a + 1)) rs (omega (arith, l.1))))
      | inl l ↦ rw (le-ltb a (min c r) l.1) (let more : min c r - a ≡ 0 = omega (arith, l.1) in rw more refl)
    ])
