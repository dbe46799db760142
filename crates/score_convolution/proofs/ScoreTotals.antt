-- What scores sum to, and how large that may be.
use Rattle.std.proofs.Common.{◌≡◌, ℕ, zero, suc, ◌+◌, ◌*◌, ◌<◌, ◌≤◌, List, [], ◌∷◌, ◌++◌, length, take, get_or, refl, sym, ◌∙◌, arith}
use Rattle.std.specs.Prelude.{ℤ, pos, ◌+ℤ◌, int_le, unsigned_abs}
use Rattle.std.specs.List.{sum_by}
use Rattle.std.proofs.lemmas.Int.{ints}
use Rattle.std.proofs.lemmas.List.Sums.{sum_by-cons}
use Rattle.std.proofs.lemmas.Nat.{mul-le}
use Rattle.weights.specs.Numbers.{absolute_sum}
use Rattle.weights.proofs.OneOrder.{sum_by-in_order}
use Rattle.networks.specs.PartialSums.{ascending}
use Rattle.score_convolution.specs.Draws.{score_total}

pub total-more : (scores : List ℤ) (i : ℕ) → i < length scores → score_total (take (i + 1) scores) ≡ score_total (take i scores) +ℤ get_or scores i (pos 0)
total-more [] i h = absurd (omega (arith, h))
total-more (s ∷ scores) zero h = omega (arith, ints)
total-more (s ∷ scores) (suc i) h =
    let one : suc i + 1 ≡ suc (i + 1) = omega arith in
    rw one (omega (arith, ints, total-more scores i (omega (arith, h))))

pub size-plus : (a b : ℤ) → unsigned_abs (a +ℤ b) ≤ unsigned_abs a + unsigned_abs b
size-plus a b = grind (arith, ints)

pub total-size : (scores : List ℤ) → unsigned_abs (score_total scores) ≤ absolute_sum scores
total-size [] = omega arith
total-size (s ∷ scores) = omega (arith, size-plus s (score_total scores), total-size scores)

pub absolute-append : (xs ys : List ℤ) → absolute_sum (xs ++ ys) ≡ absolute_sum xs + absolute_sum ys
absolute-append [] ys = omega arith
absolute-append (x ∷ xs) ys = omega (arith, absolute-append xs ys)

-- the sum of the first scores with the next one, within the sum of all
pub next-small : (scores : List ℤ) (i : ℕ) → i < length scores → unsigned_abs (score_total (take i scores)) + unsigned_abs (get_or scores i (pos 0)) ≤ absolute_sum scores
next-small [] i h = absurd (omega (arith, h))
next-small (s ∷ scores) zero h = omega (arith, ints)
next-small (s ∷ scores) (suc i) h = omega (arith, size-plus s (score_total (take i scores)), next-small scores i (omega (arith, h)))

pub absolute-next : (scores : List ℤ) (i : ℕ) → i < length scores → absolute_sum (take (i + 1) scores) ≡ absolute_sum (take i scores) + unsigned_abs (get_or scores i (pos 0))
absolute-next [] i h = absurd (omega (arith, h))
absolute-next (s ∷ scores) zero h = omega arith
absolute-next (s ∷ scores) (suc i) h =
    let one : suc i + 1 ≡ suc (i + 1) = omega arith in
    rw one (omega (arith, absolute-next scores i (omega (arith, h))))

pub absolute-within : (n : ℕ) (scores : List ℤ) → absolute_sum (take n scores) ≤ absolute_sum scores
absolute-within zero scores = omega arith
absolute-within (suc n) [] = omega arith
absolute-within (suc n) (s ∷ scores) = omega (arith, absolute-within n scores)

pub absolute-first : (n m : ℕ) (scores : List ℤ) → n ≤ m → absolute_sum (take n scores) ≤ absolute_sum (take m scores)
absolute-first zero m scores h = omega arith
absolute-first (suc n) zero scores h = absurd (omega (arith, h))
absolute-first (suc n) (suc m) [] h = omega arith
absolute-first (suc n) (suc m) (s ∷ scores) h = omega (arith, absolute-first n m scores (omega (arith, h)))

pub part-size : (n : ℕ) (scores : List ℤ) → unsigned_abs (score_total (take n scores)) ≤ absolute_sum scores
part-size n scores = omega (arith, total-size (take n scores), absolute-within n scores)

absolute-sums : (xs : List ℤ) → absolute_sum xs ≡ sum_by unsigned_abs xs
absolute-sums [] = refl
absolute-sums (x ∷ xs) = omega (arith, absolute-sums xs, sum_by-cons unsigned_abs x xs)

pub absolute-ascending : (xs : List ℤ) → absolute_sum (ascending xs) ≡ absolute_sum xs
absolute-ascending xs = absolute-sums (ascending xs) ∙ sum_by-in_order int_le unsigned_abs xs ∙ sym (absolute-sums xs)

-- one score is within the bound on all
sum-small : (len sum m : ℕ) → 0 < len → 2 * len * sum ≤ m → 2 * sum ≤ m
sum-small len sum m some small =
    let product : 1 * (2 * sum) ≤ len * (2 * sum) = mul-le 1 (2 * sum) len (2 * sum) some (omega arith) in
    let same : len * (2 * sum) ≡ 2 * len * sum = grind arith in
    omega (arith, product, same, small)

pub twice-small : (scores : List ℤ) (m : ℕ) → 2 * length scores * absolute_sum scores ≤ m → 2 * absolute_sum scores ≤ m
twice-small [] m small = omega arith
twice-small (s ∷ scores) m small = sum-small (length (s ∷ scores)) (absolute_sum (s ∷ scores)) m (omega arith) small

-- and a part of the scores
pub part-small : (len part sum cut m : ℕ) → part ≤ len → cut ≤ sum → 2 * len * sum ≤ m → 2 * part * cut ≤ m
part-small len part sum cut m h k small =
    let product : (2 * part) * cut ≤ (2 * len) * sum = mul-le (2 * part) cut (2 * len) sum (omega (arith, h)) k in
    omega (arith, product, small)
