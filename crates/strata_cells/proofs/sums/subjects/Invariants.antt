use Rattle.strata_cells.specs.Strata.{size}
use Rattle.strata_cells.proofs.StrataSums.{IsSummed}
use Rattle.strata_cells.proofs.sums.subjects.Given as goal

abbrev pub invariant-loop-stratum : goal.invariant-loop-stratum
invariant-loop-stratum l = IsSummed size l.fn.strata l.stratum-index l.all
