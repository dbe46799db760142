use Rattle.std.proofs.Common.{arith, refl}
use Rattle.label_network.proofs.Rows.{width-first, width-next, width-room}
use Rattle.label_network.proofs.binomials.width_for.Goals as goal

pub loop-i-init : goal.loop-i-init
loop-i-init c = width-first c.args.rows.now

pub wider-width-requires : goal.wider-width-requires
wider-width-requires c = omega (arith, width-room c.args.rows.now c.loop-i.i c.loop-i.later c.loop-i.width c.loop-i-test.true c.loop-i.invariant, c.requires)

pub bounds-rows-i : goal.bounds-rows-i
bounds-rows-i c = omega (arith, c.loop-i.invariant.within, c.loop-i-test.true)

pub bounds-rows-i-in-loop-i : goal.bounds-rows-i-in-loop-i
bounds-rows-i-in-loop-i c = omega (arith, c.loop-i.invariant.within, c.loop-i-test.true)

pub loop-i-preserved : goal.loop-i-preserved
loop-i-preserved c = width-next c.args.rows.now c.loop-i.i c.loop-i.later c.loop-i.width c.loop-i-test.true c.loop-i.invariant _ c.wider-width.result refl c.wider-width.ensures

pub returns-clause-held : goal.returns-clause-held
returns-clause-held c = record { each = λ i l w. c.loop-i.invariant.each i (omega (arith, c.loop-i-test.false)) l w }

pub overflow_add-later : goal.overflow_add-later
overflow_add-later c = omega (arith, width-room c.args.rows.now c.loop-i.i c.loop-i.later c.loop-i.width c.loop-i-test.true c.loop-i.invariant, c.requires)
