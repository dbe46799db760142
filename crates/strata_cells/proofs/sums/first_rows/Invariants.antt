use Rattle.strata_cells.specs.Strata.{first_row}
use Rattle.strata_cells.proofs.StrataSums.{IsSummed}
use Rattle.strata_cells.proofs.sums.first_rows.Given as goal

abbrev pub invariant-loop-stratum : goal.invariant-loop-stratum
invariant-loop-stratum l = IsSummed first_row l.fn.strata l.stratum-index l.all
