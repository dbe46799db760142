-- Sums of the scores of groups: how great they are.
use Rattle.std.proofs.Common.{◌≡◌, ℕ, zero, suc, ◌+◌, ◌*◌, ◌<◌, ◌≤◌, Bool, true, false, cond, List, [], ◌∷◌, map, refl, ◌∙◌, arith, nat_eq}
use Rattle.std.specs.Prelude.{ℤ, pos, ◌+ℤ◌, unsigned_abs}
use Rattle.std.specs.List.{AllByRecursion, range_with_len}
use Rattle.std.proofs.Math.Nat.{mul-le-mul, mul-le-mul_left, le_refl, mul-add}
use Rattle.std.proofs.lemmas.Bool.{eqb-true}
use Rattle.weights.specs.Labellings.{labels}
use Rattle.completion_bounds.specs.Boxes.{factored_squares}
use Rattle.weights.specs.Numbers.{absolute_sum}
use Rattle.later_scores.proofs.Absolute.{size-plus}
use Rattle.scores.specs.Scores.{labelled_sum}
use Rattle.kruskal_wallis.specs.KruskalWallis.{group_sums}

-- a score is of one of the groups
module _ (s : ℤ) (x : ℕ) (f : ℕ → ℤ) where
  abbrev with_score : ℕ → ℤ
  with_score i = cond (nat_eq x i) s (pos 0) +ℤ f i

  without : (i : ℕ) (b : Bool) → nat_eq x i ≡ b → b ≡ false → unsigned_abs (with_score i) ≤ unsigned_abs (f i)
  without i b e h = let no : nat_eq x i ≡ false = e ∙ h in rw no (omega (arith, size-plus (pos 0) (f i)))

  none-there : (n a : ℕ) → x < a → absolute_sum (map with_score (range_with_len a n)) ≤ absolute_sum (map f (range_with_len a n))
  none-there zero a h = omega arith
  none-there (suc n) a h = omega (arith, without a (nat_eq x a) refl (apart x a h), none-there n (a + 1) (omega (arith, h)))
    where
      apart : (x a : ℕ) → x < a → nat_eq x a ≡ false
      apart x a h = grind (arith, h)

  once-there : (n a : ℕ) → absolute_sum (map with_score (range_with_len a n)) ≤ unsigned_abs s + absolute_sum (map f (range_with_len a n))
  once-there zero a = omega arith
  once-there (suc n) a = by (nat_eq x a) refl (once-there n (a + 1))
    where
      by : (b : Bool) → nat_eq x a ≡ b → absolute_sum (map with_score (range_with_len (a + 1) n)) ≤ unsigned_abs s + absolute_sum (map f (range_with_len (a + 1) n))
          → absolute_sum (map with_score (range_with_len a (suc n))) ≤ unsigned_abs s + absolute_sum (map f (range_with_len a (suc n)))
      by true e rest =
          let one : unsigned_abs (with_score a) ≤ unsigned_abs s + unsigned_abs (f a) = rw e (size-plus s (f a)) in
          omega (arith, one, none-there n (a + 1) (omega (arith, (eqb-true x a e))))
      by false e rest = omega (arith, without a false e refl, rest)

zeros : (is : List ℕ) → absolute_sum (map (λ i. pos 0) is) ≡ 0
zeros [] = refl
zeros (i ∷ is) = omega (arith, zeros is)

pub sums-within : (k : ℕ) (scores : List ℤ) (xs : List ℕ) → absolute_sum (group_sums k scores xs) ≤ absolute_sum scores
sums-within k [] xs = omega (arith, zeros (labels k))
sums-within k (s ∷ scores) [] = omega (arith, zeros (labels k))
sums-within k (s ∷ scores) (x ∷ xs) = omega (arith, once-there s x (λ i. labelled_sum i scores xs) k 0, sums-within k scores xs)

-- no sum of squares passes the greatest factor times the square of the summed sizes
square-sum : (a s : ℕ) → a * a + s * s ≤ (a + s) * (a + s)
square-sum a s = grind arith

pub squares-most : (p : List ℤ) (factors : List ℕ) (most : ℕ) → AllByRecursion (λ f. f ≤ most) factors → factored_squares p factors ≤ most * (absolute_sum p * absolute_sum p)
squares-most [] factors most a = omega arith
squares-most (p ∷ ps) [] most a = omega arith
squares-most (p ∷ ps) (f ∷ factors) most a =
    let apart : most * (unsigned_abs p * unsigned_abs p + absolute_sum ps * absolute_sum ps) ≡ most * (unsigned_abs p * unsigned_abs p) + most * (absolute_sum ps * absolute_sum ps) = mul-add most (unsigned_abs p * unsigned_abs p) (absolute_sum ps * absolute_sum ps) in
    omega (arith, (mul-le-mul a.0 (le_refl (unsigned_abs p * unsigned_abs p))), (mul-le-mul_left most (square-sum (unsigned_abs p) (absolute_sum ps))), apart, squares-most ps factors most a.1)
