-- How often a subject of the second sample comes after one of the first, over the labellings of
-- places without ties (Mann and Whitney, Annals of Mathematical Statistics 18, 1947).
use Rattle.std.specs.Prelude.{ℕ, zero, suc, ◌+◌, ◌*◌, List, [], ◌∷◌, length, Bool, nat_eq, nat_le, nat_lt, if◌then◌else◌}
use Rattle.std.specs.List.{count_by, filter}
use Rattle.weights.specs.Labellings.{labellings, number_of_labellings}
use Rattle.weights.specs.declared.odds.Odds.{Odds}

-- in how many pairs of places the earlier one has the label 0 and the later one the label 1
abbrev pub later_pairs : List ℕ → ℕ
later_pairs [] = 0
later_pairs (l ∷ ls) =
    (if nat_eq l 0 then count_by (λ m. nat_eq m 1) ls else 0) + later_pairs ls

-- how many labellings have fewer than k such pairs
abbrev pub labellings_below : List ℕ → ℕ → ℕ
labellings_below sizes k = length (filter (λ xs. nat_lt (later_pairs xs) k) (labellings sizes))

-- the labellings that limits at place k miss, on both sides, are at most this part of all
abbrev pub misses_at_most : List ℕ → Odds → ℕ → Bool
misses_at_most sizes miss k =
    nat_le (2 * labellings_below sizes k * miss.below) (miss.above * number_of_labellings sizes)

-- the greatest number up to n that passes, and 0 where none does
abbrev pub greatest_to : (ℕ → Bool) → ℕ → ℕ
greatest_to p zero = 0
greatest_to p (suc n) = if p (suc n) then suc n else greatest_to p n
