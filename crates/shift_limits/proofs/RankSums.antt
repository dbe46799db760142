-- Without ties, the doubled rank sum of the second sample is twice the later pairs and n(n + 1), for n
-- subjects of that sample.
use Rattle.std.proofs.Common.{◌≡◌, ℕ, zero, suc, ◌+◌, ◌*◌, ◌<◌, cond, nat_eq, List, [], ◌∷◌, length, map, refl, ap, ◌∙◌, arith}
use Rattle.std.specs.Prelude.{ℤ, pos, ◌+ℤ◌}
use Rattle.std.specs.List.{AllByRecursion, count_by, range_with_len}
use Rattle.std.proofs.lemmas.Int.{ints}
use Rattle.std.proofs.lemmas.List.Sums.{sum_by-cons}
use Rattle.scores.specs.Scores.{labelled_sum}
use Rattle.shift_limits.specs.LaterPairs.{later_pairs}

-- the doubled ranks of so many places from one on
abbrev pub doubled_ranks : ℕ → ℕ → List ℤ
doubled_ranks first n = map (λ i. pos (2 * i + 2)) (range_with_len first n)

abbrev pub seconds : List ℕ → ℕ
seconds xs = count_by (λ m. nat_eq m 1) xs

seconds-cons : (x : ℕ) (xs : List ℕ) → seconds (x ∷ xs) ≡ cond (nat_eq x 1) 1 0 + seconds xs
seconds-cons x xs = sum_by-cons (λ m. cond (nat_eq m 1) 1 0) x xs

seconds-first : (xs : List ℕ) → seconds (0 ∷ xs) ≡ seconds xs
seconds-first xs = omega (arith, seconds-cons 0 xs)

seconds-second : (xs : List ℕ) → seconds (1 ∷ xs) ≡ suc (seconds xs)
seconds-second xs = omega (arith, seconds-cons 1 xs)

-- a square and a product after one more subject
from-first : (a u n s : ℕ) → s ≡ 2 * u + n * (n + 1) + 2 * (a + 1) * n → s ≡ 2 * (n + u) + n * (n + 1) + 2 * a * n
from-first a u n s e = omega (arith, e)

from-second : (a u n s : ℕ) → s ≡ 2 * u + n * (n + 1) + 2 * (a + 1) * n → 2 * a + 2 + s ≡ 2 * (0 + u) + suc n * (suc n + 1) + 2 * a * suc n
from-second a u n s e = omega (arith, e)

pub rank-sum-from : (first : ℕ) (xs : List ℕ) → AllByRecursion (λ x. x < 2) xs
    → labelled_sum 1 (doubled_ranks first (length xs)) xs ≡ pos (2 * later_pairs xs + seconds xs * (seconds xs + 1) + 2 * first * seconds xs)
rank-sum-from first [] all = ap pos (omega arith)
rank-sum-from first (x ∷ xs) all = by x all.0 (rank-sum-from (first + 1) xs all.1)
  where
    rest : ℤ
    rest = labelled_sum 1 (doubled_ranks (first + 1) (length xs)) xs

    n : ℕ
    n = count_by (λ m. nat_eq m 1) xs

    told : ℕ
    told = 2 * later_pairs xs + n * (n + 1) + 2 * (first + 1) * n

    zero-plus : (t : ℤ) → pos 0 +ℤ t ≡ t
    zero-plus t = omega (arith, ints)

    by : (x : ℕ) → x < 2 → rest ≡ pos told
        → cond (nat_eq x 1) (pos (2 * first + 2)) (pos 0) +ℤ rest
        ≡ pos (2 * (cond (nat_eq x 0) n 0 + later_pairs xs) + seconds (x ∷ xs) * (seconds (x ∷ xs) + 1) + 2 * first * seconds (x ∷ xs))
    by zero h e = rw (seconds-first xs) (zero-plus rest ∙ e ∙ ap pos (from-first first (later_pairs xs) n told refl))
    by (suc zero) h e = rw (seconds-second xs, e) (ap pos (from-second first (later_pairs xs) n told refl))
    by (suc (suc x)) h e = absurd (omega (arith, h))
