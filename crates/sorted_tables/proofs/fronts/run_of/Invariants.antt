use Rattle.std.proofs.Common.{ℕ, ◌≡◌, ◌+◌, ◌-◌, ◌<◌, List, drop, length}
use Rattle.sorted_tables.specs.SortedSteps.{run_from}
use Rattle.sorted_tables.proofs.fronts.run_of.Given as goal

-- the rows passed are of the size of the one before them
pub record IsRunning (rows : List ℕ) (last : ℕ) : Type 0 where
  pub passed : run_from rows ≡ last + run_from (drop last rows)
  pub within : last < length rows

abbrev pub invariant-loop-last : goal.invariant-loop-last
invariant-loop-last l = IsRunning l.rows l.last

abbrev pub decreases-loop-last : goal.decreases-loop-last
decreases-loop-last l = length l.rows - l.last
