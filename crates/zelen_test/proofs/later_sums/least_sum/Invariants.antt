use Rattle.std.proofs.Common.{◌≡◌, ◌+◌, drop}
use Rattle.zelen_test.specs.ZelenNetwork.{least_first_cells}
use Rattle.zelen_test.proofs.later_sums.least_sum.Given as goal

abbrev pub invariant-loop-stratum : goal.invariant-loop-stratum
invariant-loop-stratum l = l.all + least_first_cells (drop l.stratum-index l.strata) ≡ least_first_cells l.strata
