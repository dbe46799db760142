use Rattle.std.proofs.Common.{◌≡◌, ◌+◌, drop}
use Rattle.zelen_test.specs.ZelenNetwork.{greatest_first_cells}
use Rattle.zelen_test.proofs.later_sums.greatest_sum.Given as goal

abbrev pub invariant-loop-stratum : goal.invariant-loop-stratum
invariant-loop-stratum l = l.all + greatest_first_cells (drop l.stratum-index l.strata) ≡ greatest_first_cells l.strata
