use Rattle.std.proofs.Common.{arith}
use Rattle.fisher_test.proofs.FilledColumns.{filling-first, filling-last, filling-next}
use Rattle.fisher_test.proofs.fillings.fill_in_turn.Goals as goal

pub loop-i-init : goal.loop-i-init
loop-i-init c = filling-first c.args.units c.args.rows.now c.args.cells.now c.requires

pub loop-i-preserved : goal.loop-i-preserved
loop-i-preserved c = filling-next c.args.units c.args.rows.now c.loop-i.i c.loop-i.left c.loop-i.cells c.min-cell.result c.loop-i-test.true c.min-cell.ensures c.loop-i.invariant

pub returns : goal.returns
returns c = filling-last c.args.units c.args.rows.now c.loop-i.i c.loop-i.left c.loop-i.cells (omega (arith, c.loop-i-test.false, c.loop-i.auto.i-end)) c.loop-i.invariant
