use Rattle.std.proofs.Common.{drop}
use Rattle.strata_cells.specs.Strata.{cells_weight}
use Rattle.zelen_test.specs.ZelenMade.{own_cells}
use Rattle.zelen_test.proofs.Rarities.{IsWeighing}
use Rattle.zelen_test.proofs.cell_weights.own_weight.Given as goal

abbrev pub invariant-loop-stratum : goal.invariant-loop-stratum
invariant-loop-stratum l = IsWeighing l.fn.strata (cells_weight l.fn.strata (own_cells l.fn.strata)) l.stratum-index l.product (own_cells (drop l.stratum-index l.fn.strata))
