-- A range in two, the numbers of a range, and sums over it that take one term alone.
use Rattle.std.proofs.Common.{◌≡◌, ◌≢◌, ℕ, zero, suc, ◌+◌, ◌<◌, ◌≤◌, List, [], ◌∷◌, ◌++◌, get_or, map, AllPairs, cond, refl, sym, ◌∙◌, ap, arith, nat_eq, add-zero, zero-add, suc-add, ◌⊎◌, inl, inr}
use Rattle.std.specs.List.{sum_by, range_with_len}
use Rattle.std.proofs.lemmas.List.FromFn.{get_or-map-range_with_len, length-map-range_with_len}
use Rattle.std.proofs.lemmas.List.Sums.{sum_by-cons}
use Rattle.std.proofs.lemmas.Bool.Decides.{eqb_tells, nat_tests}

-- a sum over a range that takes the term at b alone
pub range-none : (f : ℕ → ℕ) (b s n : ℕ) → (b < s) ⊎ (s + n ≤ b) → sum_by (λ a. cond (nat_eq b a) (f a) 0) (range_with_len s n) ≡ 0
range-none f b s zero h = refl
range-none f b s (suc n) h =
    let rest : sum_by (λ a. cond (nat_eq b a) (f a) 0) (range_with_len (s + 1) n) ≡ 0 = range-none f b (s + 1) n (elim h [ inl l ↦ inl (omega arith) | inr l ↦ inr (omega arith) ]) in
    rw (sum_by-cons (λ a. cond (nat_eq b a) (f a) 0) s (range_with_len (s + 1) n), rest) (grind (arith, nat_tests, h))

pub range-one : (f : ℕ → ℕ) (b s n : ℕ) → s ≤ b → b < s + n → sum_by (λ a. cond (nat_eq b a) (f a) 0) (range_with_len s n) ≡ f b
range-one f b s zero l h = absurd (omega arith)
range-one f b s (suc n) l h = rw (sum_by-cons (λ a. cond (nat_eq b a) (f a) 0) s (range_with_len (s + 1) n)) (elim (eqb_tells b s) [
  | inl e ↦ rw (e.0, range-none f b (s + 1) n (inl (omega arith)), e.1) (omega arith)
  | inr e ↦ rw (e.0, range-one f b (s + 1) n (omega arith) (omega arith)) (omega arith)
])

pub range-split : (s n k : ℕ) → range_with_len s (n + k) ≡ range_with_len s n ++ range_with_len (s + n) k
range-split s zero k = rw (zero-add k, add-zero s) refl
range-split s (suc n) k = rw (suc-add n k, range-split (s + 1) n k) (ap (λ i. s ∷ (range_with_len (s + 1) n ++ range_with_len i k)) (let same : (s + 1) + n ≡ s + suc n = omega arith in same))

ones-apart : (x y : ℕ) → x < y → x ∷ [] ≢ y ∷ []
ones-apart x y l e = let same : x ≡ y = cc in omega arith

-- lists of one number each, from one on, are all different
pub range-different : (s n : ℕ) → AllPairs ◌≢◌ (map (λ x. x ∷ []) (range_with_len s n))
range-different s n i j d below inside e =
    let all : List (List ℕ) = map (λ x. x ∷ []) (range_with_len s n) in
    let within : j < n = omega (arith, length-map-range_with_len (λ x. x ∷ []) s n) in
    let first : get_or all i d ≡ (s + i) ∷ [] = get_or-map-range_with_len (λ x. x ∷ []) s n i (s + i) d (omega arith) refl in
    let second : get_or all j d ≡ (s + j) ∷ [] = get_or-map-range_with_len (λ x. x ∷ []) s n j (s + j) d within refl in
    ones-apart (s + i) (s + j) (omega arith) (sym first ∙ e ∙ second)
