-- Rows of the sums of the j least or of the j greatest scores, from j 0 on.
use Rattle.std.specs.Prelude.{◌≡◌, ℕ, ◌<◌, ◌≤◌, ℤ, pos, List, ◌∷◌, length, get_or}
use Rattle.std.specs.Int.{int_min, int_max}
use Rattle.later_scores.specs.declared.ends.End.{End}
use Rattle.later_scores.specs.declared.ends.End.TheVariants.{Least, Greatest}
use Rattle.later_scores.specs.LaterSums.{part_sum}

-- of two sums the one that is nearer to an end
abbrev pub better_of : End → ℤ → ℤ → ℤ
better_of Least = int_min
better_of Greatest = int_max

-- the other end
abbrev pub other_end : End → End
other_end Least = Greatest
other_end Greatest = Least

pub record IsRow (better : ℤ → ℤ → ℤ) (scores row : List ℤ) : Type 0 where
  pub each : (j : ℕ) → j < length row → get_or row j (pos 0) ≡ part_sum better j scores

-- a row that has one score more from place j on
pub record IsHalf (better : ℤ → ℤ → ℤ) (x : ℤ) (scores row : List ℤ) (j : ℕ) : Type 0 where
  pub long : j ≤ length row
  pub before : (i : ℕ) → i < j → get_or row i (pos 0) ≡ part_sum better i scores
  pub after : (i : ℕ) → j ≤ i → i < length row
      → get_or row i (pos 0) ≡ part_sum better i (x ∷ scores)
