-- Each list of counts that sums to c and fits is chosen exactly once.
use Rattle.std.proofs.Common.{◌≡◌, ℕ, ◌+◌, ◌-◌, ◌<◌, ◌≤◌, List, [], ◌∷◌, length, min, Bool, true, false, cond, ◌&&◌, refl, sym, ◌∙◌, ap, arith, nat_eq, nat_le, eq-eqb, ne_eqb, inl, inr}
use Rattle.std.specs.List.{sum_by, sum, count_by, range_with_len}
use Rattle.std.specs.Cmp.Lexicographic.{pointwise}
use Rattle.std.proofs.lemmas.List.Sums.{sum_by-cons}
use Rattle.std.proofs.lemmas.Bool.Decides.{eqb_tells, leb_tells}
use Rattle.std.proofs.lemmas.Bool.{le-leb}
use borrow.Author.Tests.{lt-leb}
use Rattle.weights.specs.Grouped.{fits, choices}
use Rattle.weights.proofs.Ranges.{range-none, range-one}
use Rattle.weights.proofs.Sums.{sum_by-same, sum_by-cond, sum_by-fronts}

abbrev pub one_if : Bool → ℕ
one_if b = cond b 1 0

pub cond-and : (a b : Bool) → one_if (a && b) ≡ cond a (one_if b) 0
cond-and true b = refl
cond-and false b = refl

inside : (c r b s : ℕ) (w : Bool) → b ≤ min c r → (nat_eq (c - b) s && w) ≡ (nat_eq c (b + s) && (nat_le b r && w))
inside c r b s w l = rw (le-leb b r (omega arith)) (elim (eqb_tells c (b + s)) [
  | inl e ↦ rw (e.0, eq-eqb (c - b) s (omega (arith, e.1))) refl
  | inr e ↦ rw (e.0, ne_eqb (c - b) s (λ q. e.1 (omega (arith, q)))) refl
])

outside : (c r b s : ℕ) (w : Bool) → min c r < b → (nat_eq c (b + s) && (nat_le b r && w)) ≡ false
outside c r b s w h = elim (eqb_tells c (b + s)) [
  | inl e ↦ rw (e.0, lt-leb b r (omega (arith, e.1))) refl
  | inr e ↦ rw (e.0) refl
]

-- where the first count is within the range or not
step : (c r b s : ℕ) (w : Bool) → sum_by (λ a. cond (nat_eq b a) (one_if (nat_eq (c - a) s && w)) 0) (range_with_len 0 (min c r + 1)) ≡ one_if (nat_eq c (b + s) && (nat_le b r && w))
step c r b s w = elim (leb_tells b (min c r)) [
  | inl l ↦ range-one (λ a. one_if (nat_eq (c - a) s && w)) b 0 (min c r + 1) (omega arith) (omega (arith, l.1)) ∙ ap one_if (inside c r b s w l.1)
  | inr l ↦ range-none (λ a. one_if (nat_eq (c - a) s && w)) b 0 (min c r + 1) (inr (omega (arith, l.1))) ∙ ap one_if (sym (outside c r b s w l.1))
]

pub chosen_once : (c : ℕ) (r x : List ℕ) → length x ≡ length r → count_by (pointwise nat_eq x) (choices c r) ≡ one_if (nat_eq c (sum x) && fits x r)
chosen_once c [] [] p = by (nat_eq c 0)
  where
    by : (b : Bool) → count_by (pointwise nat_eq []) (cond b ([] ∷ []) []) ≡ one_if (b && true)
    by true = refl
    by false = refl
chosen_once c [] (b ∷ x) p = absurd (omega arith)
chosen_once c (r ∷ rs) [] p = absurd (omega arith)
chosen_once c (r ∷ rs) (b ∷ x) p =
    sum_by-fronts (λ w. cond (pointwise nat_eq (b ∷ x) w) 1 0) (λ a. a) (λ a. choices (c - a) rs) (range_with_len 0 (min c r + 1))
    ∙ sum_by-same _ (λ a. cond (nat_eq b a) (one_if (nat_eq (c - a) (sum x) && fits x rs)) 0) (λ a.
    sum_by-same _ _ (λ w. cond-and (nat_eq b a) (pointwise nat_eq x w)) (choices (c - a) rs)
    ∙ sum_by-cond (nat_eq b a) (λ w. cond (pointwise nat_eq x w) 1 0) (choices (c - a) rs)
    ∙ ap (λ n. cond (nat_eq b a) n 0) (chosen_once (c - a) rs x (omega arith))) (range_with_len 0 (min c r + 1))
    ∙ step c r b (sum x) (fits x rs)
    ∙ rw (sum_by-cons (λ v. v) b x) refl
