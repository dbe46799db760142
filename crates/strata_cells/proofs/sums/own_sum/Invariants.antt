use Rattle.strata_cells.specs.declared.stratum.Stratum.{Stratum}
use Rattle.strata_cells.proofs.StrataSums.{IsSummed}
use Rattle.strata_cells.proofs.sums.own_sum.Given as goal

abbrev pub invariant-loop-stratum : goal.invariant-loop-stratum
invariant-loop-stratum l = IsSummed (λ (s : Stratum). s.a) l.fn.strata l.stratum-index l.all
