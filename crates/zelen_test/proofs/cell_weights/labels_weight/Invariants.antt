use Rattle.std.proofs.Common.{drop}
use Rattle.strata_cells.specs.Strata.{cells_of, cells_weight}
use Rattle.zelen_test.proofs.Rarities.{IsWeighing}
use Rattle.zelen_test.proofs.cell_weights.labels_weight.Given as goal

abbrev pub invariant-loop-stratum : goal.invariant-loop-stratum
invariant-loop-stratum l = IsWeighing l.fn.strata (cells_weight l.fn.strata (cells_of l.fn.strata l.fn.labels)) l.stratum-index l.product (cells_of (drop l.stratum-index l.fn.strata) l.later)
