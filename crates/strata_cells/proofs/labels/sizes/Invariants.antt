use Rattle.std.proofs.Common.{◌≡◌, map, take}
use Rattle.strata_cells.specs.Strata.{size}
use Rattle.strata_cells.proofs.labels.sizes.Given as goal

abbrev pub invariant-loop-stratum : goal.invariant-loop-stratum
invariant-loop-stratum l = map size (take l.stratum-index l.strata) ≡ l.sizes
