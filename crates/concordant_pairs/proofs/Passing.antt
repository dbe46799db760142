-- The counts of the numbers of pairs whose value passes, and the labellings that have them.
use Rattle.std.proofs.Common.{◌≡◌, ℕ, ◌+◌, ◌-◌, ◌<◌, ◌≤◌, List, [], ◌∷◌, Bool, true, false, cond, refl, ◌∙◌, ap, subst, arith, nat_eq}
use Rattle.std.specs.List.{sum_by, count_by, AllByRecursion, range_with_len, Contains}
use Rattle.std.proofs.lemmas.List.Sums.{sum_by-cons, sum_by-append}
use Rattle.std.proofs.lemmas.Bool.Decides.{nat_tests}
use Rattle.weights.specs.Labellings.{labellings, labels}
use Rattle.enumerate.proofs.JoinedMembers.{own}
use Rattle.concordant_pairs.specs.ConcordantPairs.{concordant_count, concordant_pairs}
use Rattle.weights.proofs.Ranges.{range-split}

one-alone : (f : ℕ → ℕ) (x : ℕ) → sum_by f (x ∷ []) ≡ f x
one-alone f x = omega arith

-- one number more
pub next-place : (f : ℕ → ℕ) (n : ℕ) → sum_by f (labels (n + 1)) ≡ sum_by f (labels n) + f n
next-place f n =
    let start : 0 + n ≡ n = omega arith in
    ap (sum_by f) (range-split 0 n 1) ∙ sum_by-append f (labels n) (range_with_len (0 + n) 1) ∙ rw start (ap (λ m. sum_by f (labels n) + m) (one-alone f n))

pub within-all : (f : ℕ → ℕ) (n m : ℕ) → n < m → sum_by f (labels n) + f n ≤ sum_by f (labels m)
within-all f n m h =
    let parts : m ≡ (n + 1) + (m - (n + 1)) = omega (arith, h) in
    let whole = ap (λ k. sum_by f (labels k)) parts ∙ ap (sum_by f) (range-split 0 (n + 1) (m - (n + 1))) ∙ sum_by-append f (labels (n + 1)) (range_with_len (0 + (n + 1)) (m - (n + 1))) in
    omega (arith, whole, next-place f n)

-- what follows of some item that is counted follows
found-counted : {X : Type 0} (P : X → Type 0) (R : Type 0) (p : X → Bool) → ((x : X) → P x → p x ≡ true → R) → (xs : List X) → AllByRecursion P xs → 1 ≤ count_by p xs → R
found-counted P R p each [] a some = absurd (omega (arith, some))
found-counted P R p each (x ∷ xs) a some = by (p x) refl (sum_by-cons (λ x. cond (p x) 1 0) x xs) (found-counted P R p each xs a.1)
  where
    by : (b : Bool) → p x ≡ b → count_by p (x ∷ xs) ≡ cond b 1 0 + count_by p xs → (1 ≤ count_by p xs → R) → R
    by true e s rest = each x a.0 e
    by false e s rest = rest (omega (arith, some, s))

-- a number of pairs that is counted is that of a labelling
pub of-labelling : (R : ℕ → Type 0) (sizes : List ℕ) → ((xs : List ℕ) → Contains (labellings sizes) xs → R (concordant_pairs xs)) → (u : ℕ) → 1 ≤ concordant_count sizes u → R u
of-labelling R sizes each u some = found-counted (Contains (labellings sizes)) (R u) (λ xs. nat_eq (concordant_pairs xs) u) (λ xs c e. subst R (same (concordant_pairs xs) e) (each xs c)) (labellings sizes) (own (labellings sizes)) some
  where
    same : (v : ℕ) → nat_eq v u ≡ true → v ≡ u
    same v e = grind (arith, nat_tests, e)
