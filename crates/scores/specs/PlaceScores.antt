-- Scores of places: what place p of n in ascending order counts for, p from 1 to n.
use Rattle.std.specs.Prelude.{ℕ, ◌+◌, ◌-◌, ◌*◌, ◌/◌, min, List, map, nat_lt, if◌then◌else◌}
use Rattle.std.specs.Int.{abs_diff}
use Rattle.std.specs.List.{fold, range_with_len, sum_by}
use Rattle.weights.specs.Numbers.{lcm}

-- the least common multiple of numbers, 1 for none
unfoldable pub common_multiple : List ℕ → ℕ
common_multiple numbers = fold lcm 1 numbers

-- that of 1 to n
abbrev pub multiple_to : ℕ → ℕ
multiple_to n = common_multiple (range_with_len 1 n)

-- how near the place is to an end (Ansari and Bradley, as in Hollander and Wolfe, Nonparametric
-- Statistical Methods)
unfoldable pub ansari_place : ℕ → ℕ → ℕ
ansari_place n p = min p (n + 1 - p)

-- four times the square of the distance from the middle place (Mood)
unfoldable pub mood_place : ℕ → ℕ → ℕ
mood_place n p = let doubled = abs_diff (2 * p) (n + 1) in doubled * doubled

-- the sum of 1/j for j from n - p + 1 to n, times the least common multiple of 1 to n (Savage)
unfoldable pub savage_place : ℕ → ℕ → ℕ
savage_place n p = sum_by (λ j. multiple_to n / j) (range_with_len (n - p + 1) p)

-- one above the middle place, and nothing at it or below (Brown and Mood, strict)
unfoldable pub median_place : ℕ → ℕ → ℕ
median_place n p = if nat_lt (n + 1) (2 * p) then 1 else 0

-- the scores of the places 1 to n
unfoldable pub place_scores : (ℕ → ℕ) → ℕ → List ℕ
place_scores score n = map score (range_with_len 1 n)
