use Rattle.std.proofs.Common.{◌*◌, ◌/◌}
use Rattle.strata_cells.specs.Strata.{first_column, first_row, size}
use Rattle.strata_cells.proofs.StrataSums.{IsSummed}
use Rattle.stratified_tests.proofs.sums.centre_by.Given as goal

abbrev pub invariant-loop-stratum : goal.invariant-loop-stratum
invariant-loop-stratum l = IsSummed (λ s. l.fn.multiple / size s * (first_row s * first_column s)) l.fn.strata l.stratum-index l.centre
