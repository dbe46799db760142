use Rattle.std.proofs.Common.{arith}
use Rattle.completion_bounds.proofs.Capped.{turn-first, turn-next, turn-last}
use Rattle.completion_bounds.proofs.Factorials.{total-is}
use Rattle.completion_bounds.proofs.fillings.times_filled_in_turn.Goals as goal

pub loop-row-init : goal.loop-row-init
loop-row-init c = turn-first c.args.product c.args.cap c.args.units c.args.rows.now c.requires.some c.requires.most (omega (arith, c.requires.room, total-is c.args.rows.now))

pub loop-row-preserved : goal.loop-row-preserved
loop-row-preserved c = rw (c.times_ways-weight.ensures, c.min-cell.ensures) (turn-next _ _ _ _ c.args.rows.now c.loop-row.row-index c.loop-row-test.true c.loop-row.invariant)

pub returns : goal.returns
returns c = turn-last _ _ _ _ c.args.rows.now c.loop-row.row-index (omega (arith, c.loop-row-test.false)) c.loop-row.invariant
