-- The scores of the subjects that are still to come, and the least and the greatest sum of some.
use Rattle.std.specs.Prelude.{ℕ, zero, suc, ℤ, pos, ◌+ℤ◌, List, [], ◌∷◌, ◌++◌, length, drop, replicate, nat_lt, if◌then◌else◌}
use Rattle.std.specs.Int.{int_min, int_max}

abbrev pub total_score : List ℤ → ℤ
total_score [] = pos 0
total_score (x ∷ xs) = x +ℤ total_score xs

-- each score as often as it has units
abbrev pub subjects : List ℤ → List ℕ → List ℤ
subjects [] counts = []
subjects (s ∷ scores) [] = []
subjects (s ∷ scores) (c ∷ counts) = replicate c s ++ subjects scores counts

-- the scores of the subjects from a column on
abbrev pub later_scores : List ℤ → List ℕ → ℕ → List ℤ
later_scores scores columns g = subjects (drop g scores) (drop g columns)

-- a sum of j of the scores, or of all where there are no more: each score is taken, or passed over
-- while enough are left, whichever is better
abbrev pub part_sum : (ℤ → ℤ → ℤ) → ℕ → List ℤ → ℤ
part_sum better zero xs = pos 0
part_sum better (suc j) [] = pos 0
part_sum better (suc j) (x ∷ xs) =
    let taken = x +ℤ part_sum better j xs in
    if nat_lt j (length xs) then better taken (part_sum better (suc j) xs) else taken

-- the least
abbrev pub least_sum : ℕ → List ℤ → ℤ
least_sum j xs = part_sum int_min j xs

-- the greatest
abbrev pub greatest_sum : ℕ → List ℤ → ℤ
greatest_sum j xs = part_sum int_max j xs
