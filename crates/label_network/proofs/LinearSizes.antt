-- Sums of products are no greater than the greatest row score times the summed column scores.
use Rattle.std.proofs.Common.{◌≡◌, ℕ, zero, suc, ◌+◌, ◌*◌, ◌≤◌, List, [], ◌∷◌, ◌++◌, length, refl, sym, ◌∙◌, ap, arith}
use Rattle.std.specs.Prelude.{ℤ, pos, ◌+ℤ◌, ◌*ℤ◌, ◌≤ℤ◌, int_le, nat_abs, unsigned_abs, replicate, reverse}
use Rattle.std.specs.List.{sum}
use Rattle.std.proofs.Math.Nat.{mul-le-mul, mul-le-mul_left, le_refl, mul-add, mul_comm}
use Rattle.std.proofs.lemmas.Int.{ints, unsigned_abs-mul}
use Rattle.std.proofs.lemmas.List.{reverse-append}
use Rattle.std.proofs.lemmas.List.Sums.{sum_by-cons}
use Rattle.completion_bounds.specs.Pairings.{paired, greatest_score}
use Rattle.weights.specs.Numbers.{absolute_sum}
use Rattle.weights.proofs.OneOrder.{sum_by-in_order}
use Rattle.weights.proofs.Sums.{absolute_sum-by}
use Rattle.later_scores.specs.LaterSums.{subjects}
use Rattle.later_scores.proofs.Absolute.{size-plus}
use Rattle.label_network.specs.Linear.{row_sum, score_of}
use Rattle.label_network.proofs.Climbing.{Climbs, RowsClimb}
use Rattle.label_network.specs.LinearSteps.{picked_scores, least_added, greatest_added, reach, whole_reach}
use Rattle.label_network.proofs.Sorting.{sort_up}
use Rattle.label_network.proofs.LeastPairing.{least_pairing_is, greatest_pairing_is}

pub score-within : (us : List ℤ) (i : ℕ) → unsigned_abs (score_of us i) ≤ greatest_score us
score-within [] i = omega arith
score-within (u ∷ us) zero = omega arith
score-within (u ∷ us) (suc i) = omega (arith, score-within us i)

pub picked-within : (order : List ℕ) (us : List ℤ) → greatest_score (picked_scores order us) ≤ greatest_score us
picked-within [] us = omega arith
picked-within (i ∷ order) us = omega (arith, score-within us i, picked-within order us)

-- what a choice adds
pub row-size : (us : List ℤ) (xs : List ℕ) (m : ℕ) → greatest_score us ≤ m → unsigned_abs (row_sum us xs) ≤ m * sum xs
row-size [] xs m h = omega arith
row-size (u ∷ us) [] m h = omega arith
row-size (u ∷ us) (x ∷ xs) m h =
    let two : x * unsigned_abs u ≤ x * m = mul-le-mul_left x (omega (arith, h)) in
    let all : m * sum (x ∷ xs) ≡ m * x + m * sum xs = ap (λ n. m * n) (sum_by-cons (λ v. v) x xs) ∙ mul-add m x (sum xs) in
    omega (arith, (unsigned_abs-mul (pos x) u), two, all, (mul_comm x m), size-plus (pos x *ℤ u) (row_sum us xs), row-size us xs m (omega (arith, h)))

-- the steps of ascending scores
climbed : (u : ℤ) (us : List ℤ) (m : ℕ) → Climbs u us → unsigned_abs u ≤ m → greatest_score us ≤ m → (pos (reach u us) +ℤ u) ≤ℤ pos m
climbed u [] m c h g = omega (arith, ints, h)
climbed u (w ∷ us) m c h g =
    let rest = climbed w us m c.1 (omega (arith, g)) (omega (arith, g)) in
    omega (arith, ints, rest, c.0)

pub reach-within : (us : List ℤ) (m : ℕ) → RowsClimb us → greatest_score us ≤ m → whole_reach us ≤ 3 * m
reach-within [] m c h = omega arith
reach-within (u ∷ us) m c h = omega (arith, ints, climbed u us m c (omega (arith, h)) (omega (arith, h)), h)

-- and pairings
paired-size : (xs ys : List ℤ) (m : ℕ) → greatest_score xs ≤ m → unsigned_abs (paired xs ys) ≤ m * absolute_sum ys
paired-size [] ys m h = omega arith
paired-size (x ∷ xs) [] m h = omega arith
paired-size (x ∷ xs) (y ∷ ys) m h =
    let two : unsigned_abs x * unsigned_abs y ≤ m * unsigned_abs y = mul-le-mul (omega (arith, h)) (le_refl (unsigned_abs y)) in
    omega (arith, (unsigned_abs-mul x y), two, (mul-add m (unsigned_abs y) (absolute_sum ys)), size-plus (x *ℤ y) (paired xs ys), paired-size xs ys m (omega (arith, h)))

units-within : (c : ℕ) (s : ℤ) (xs : List ℤ) (m : ℕ) → unsigned_abs s ≤ m → greatest_score xs ≤ m → greatest_score (replicate c s ++ xs) ≤ m
units-within zero s xs m h g = g
units-within (suc c) s xs m h g = omega (arith, h, units-within c s xs m h g)

subjects-within : (us : List ℤ) (ms : List ℕ) (m : ℕ) → greatest_score us ≤ m → greatest_score (subjects us ms) ≤ m
subjects-within [] ms m h = omega arith
subjects-within (u ∷ us) [] m h = omega arith
subjects-within (u ∷ us) (c ∷ ms) m h = units-within c u (subjects us ms) m (omega (arith, h)) (subjects-within us ms m (omega (arith, h)))

absolute-append : (xs ys : List ℤ) → absolute_sum (xs ++ ys) ≡ absolute_sum xs + absolute_sum ys
absolute-append [] ys = omega arith
absolute-append (x ∷ xs) ys = omega (arith, absolute-append xs ys)

absolute-turned : (xs : List ℤ) → absolute_sum (reverse xs) ≡ absolute_sum xs
absolute-turned [] = refl
absolute-turned (x ∷ xs) = ap absolute_sum (reverse-append (x ∷ []) xs) ∙ absolute-append (reverse xs) (x ∷ []) ∙ omega (arith, absolute-turned xs)

absolute-sorted : (xs : List ℤ) → absolute_sum (sort_up xs) ≡ absolute_sum xs
absolute-sorted xs = absolute_sum-by (sort_up xs) ∙ sum_by-in_order int_le nat_abs xs ∙ sym (absolute_sum-by xs)

module _ (us : List ℤ) (ms : List ℕ) (later : List ℤ) (m : ℕ) (level : length us ≡ length ms) (whole : sum ms ≡ length later) (h : greatest_score us ≤ m) where
  pub least-added-size : unsigned_abs (least_added us ms later) ≤ m * absolute_sum later
  least-added-size = rw (least_pairing_is us ms later level whole, ← absolute-sorted later, ← absolute-turned (sort_up later)) (paired-size (subjects us ms) (reverse (sort_up later)) m (subjects-within us ms m h))

  pub greatest-added-size : unsigned_abs (greatest_added us ms later) ≤ m * absolute_sum later
  greatest-added-size = rw (greatest_pairing_is us ms later level whole, ← absolute-sorted later) (paired-size (subjects us ms) (sort_up later) m (subjects-within us ms m h))
