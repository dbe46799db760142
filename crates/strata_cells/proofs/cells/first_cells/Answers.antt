use Rattle.std.proofs.Common.{arith}
use Rattle.std.proofs.lemmas.List.Elements.{recursion_from_All}
use Rattle.strata_cells.specs.StrataLimits.{IsSmall}
use Rattle.strata_cells.proofs.StrataSums.{subjects-few}
use Rattle.strata_cells.proofs.FirstCells.{count-room}
use Rattle.strata_cells.proofs.cells.first_cells.Goals as goal

pub overflow_add-sum : goal.overflow_add-sum
overflow_add-sum c =
    omega (arith, c.stratum_cell-sum.ensures, count-room c.args.strata.now c.args.labels.now c.loop-stratum.stratum-index c.loop-stratum.sum c.loop-stratum.later.now c.loop-stratum-test.true c.loop-stratum.invariant, subjects-few c.args.strata.now (recursion_from_All IsSmall c.args.strata.now c.requires.small) c.requires.few)
