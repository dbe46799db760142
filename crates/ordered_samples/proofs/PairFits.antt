-- No sum of points passes a limit.
use Rattle.std.proofs.Common.{◌≡◌, ℕ, suc, ◌+◌, ◌*◌, ◌<◌, ◌≤◌, List, [], ◌∷◌, length, get_or, drop, true, arith}
use Rattle.std.specs.Prelude.{slice_index}
use Rattle.std.specs.List.{sum, sum_by}
use Rattle.std.proofs.Math.Nat.{mul-le-mul}
use Rattle.std.proofs.lemmas.List.Sums.{sum_by-cons, sum_by-drop_more}
use Rattle.weights.specs.Grouped.{fits}
use Rattle.pooled_columns.proofs.GroupFacts.{at-within}
use Rattle.ordered_samples.specs.declared.used_pairs.UsedPair.{UsedPair}
use Rattle.ordered_samples.specs.PairCounts.{column_points, placed}
use Rattle.ordered_samples.specs.Umbrella.{subject_pairs}
use Rattle.label_network.proofs.Rows.{get-within}

pub sum-within : {X : Type 0} (f : X → ℕ) (n : ℕ) → ((x : X) → f x ≤ n) → (xs : List X) → sum_by f xs ≤ n * length xs
sum-within f n each [] = omega arith
sum-within f n each (x ∷ xs) = omega (arith, sum_by-cons f x xs, each x, sum-within f n each xs, more n (length xs))
  where
    more : (n m : ℕ) → n * suc m ≡ n + n * m
    more n m = omega arith

-- one of the pairs, and those after it
pub points-next : (qs : List UsedPair) (rows left column : List ℕ) (i : ℕ) (d : UsedPair) → i < length qs
    → column_points (drop i qs) rows left column ≡ (2 * (placed rows left (get_or qs i d).lesser * slice_index column (get_or qs i d).greater) + slice_index column (get_or qs i d).lesser * slice_index column (get_or qs i d).greater) + column_points (drop (i + 1) qs) rows left column
points-next qs rows left column i d h = sum_by-drop_more (λ (q : UsedPair). 2 * (placed rows left q.lesser * slice_index column q.greater) + slice_index column q.lesser * slice_index column q.greater) qs i d h

pub pairs-next : (qs : List UsedPair) (sizes : List ℕ) (i : ℕ) (d : UsedPair) → i < length qs
    → subject_pairs (drop i qs) sizes ≡ slice_index sizes (get_or qs i d).lesser * slice_index sizes (get_or qs i d).greater + subject_pairs (drop (i + 1) qs) sizes
pairs-next qs sizes i d h = sum_by-drop_more (λ (q : UsedPair). slice_index sizes q.lesser * slice_index sizes q.greater) qs i d h

pub pairs-most : (qs : List UsedPair) (sizes : List ℕ) → length qs ≤ 64 → sum sizes ≤ 10000 → subject_pairs qs sizes ≤ 6400000000
pairs-most qs sizes few h =
    let one : (i : ℕ) → get_or sizes i 0 ≤ 10000 = λ i. omega (arith, at-within sizes i, h) in
    omega (arith, (sum-within (λ (q : UsedPair). slice_index sizes q.lesser * slice_index sizes q.greater) (10000 * 10000) (λ q. mul-le-mul (one q.lesser) (one q.greater)) qs), few)

module _ (rows left column : List ℕ) (few : sum rows ≤ 10000) (f : fits left rows ≡ true) (h : fits column left ≡ true) where
  pub left-few : (i : ℕ) → get_or left i 0 ≤ 10000
  left-few i = omega (arith, get-within rows left i f, at-within rows i, few)

  pub column-few : (i : ℕ) → get_or column i 0 ≤ 10000
  column-few i = omega (arith, get-within left column i h, left-few i)

  pub placed-few : (i : ℕ) → placed rows left i ≤ 10000
  placed-few i = omega (arith, at-within rows i, few)

  pub points-most : (qs : List UsedPair) → length qs ≤ 64 → column_points qs rows left column ≤ 19200000000
  points-most qs small =
      let one : (q : UsedPair) → 2 * (placed rows left q.lesser * slice_index column q.greater) + slice_index column q.lesser * slice_index column q.greater ≤ 300000000 = λ q. two _ _ (mul-le-mul (placed-few q.lesser) (column-few q.greater)) (mul-le-mul (column-few q.lesser) (column-few q.greater)) in
      let all = sum-within (λ (q : UsedPair). 2 * (placed rows left q.lesser * slice_index column q.greater) + slice_index column q.lesser * slice_index column q.greater) 300000000 one qs in
      omega (arith, all, small)
    where
      two : (a b : ℕ) → a ≤ 10000 * 10000 → b ≤ 10000 * 10000 → 2 * a + b ≤ 300000000
      two a b i j = omega (arith, i, j)
