use Rattle.strata_cells.proofs.FirstCells.{IsCounted}
use Rattle.strata_cells.proofs.cells.first_cells.Given as goal

abbrev pub invariant-loop-stratum : goal.invariant-loop-stratum
invariant-loop-stratum l = IsCounted l.fn.strata l.fn.labels l.stratum-index l.sum l.later
