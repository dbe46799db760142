use Rattle.std.proofs.Common.{arith, rules, pos, get_or, FitsSigned}
use mir.Syntax.{w128}
use Rattle.std.proofs.lemmas.Int.{to_z-of_z}
use Rattle.completion_bounds.proofs.Bounding.{bounding-more, bounding-end, holds}
use Rattle.completion_bounds.proofs.boxes.box_bounds.Goals as goal

pub loop-i-preserved : goal.loop-i-preserved
loop-i-preserved c =
    let one : FitsSigned w128 (get_or c.args.low.now c.loop-i.i (pos 0)) = search rules in
    let two : FitsSigned w128 (get_or c.args.high.now c.loop-i.i (pos 0)) = search rules in
    let a = rw (to_z-of_z w128 (get_or c.args.low.now c.loop-i.i (pos 0)) one, to_z-of_z w128 (get_or c.args.high.now c.loop-i.i (pos 0)) two) at c.smallest.ensures in
    let b = rw (to_z-of_z w128 (get_or c.args.low.now c.loop-i.i (pos 0)) one, to_z-of_z w128 (get_or c.args.high.now c.loop-i.i (pos 0)) two) at c.largest.ensures in
    bounding-more c.args.low.now c.args.high.now c.args.factors.now c.args.cap c.loop-i.i c.requires.highs c.requires.factors c.loop-i.least c.loop-i.greatest _ _ c.smallest.result c.largest.result c.loop-i-test.true a b c.add_square-least.ensures c.add_square-greatest.ensures c.loop-i.invariant

pub returns-clause-least : goal.returns-clause-least
returns-clause-least c = (bounding-end c.args.low.now c.args.high.now c.args.factors.now c.args.cap c.loop-i.i c.loop-i.least c.loop-i.greatest (omega (arith, c.loop-i-test.false)) c.loop-i.invariant).0

pub returns-clause-greatest : goal.returns-clause-greatest
returns-clause-greatest c = (bounding-end c.args.low.now c.args.high.now c.args.factors.now c.args.cap c.loop-i.i c.loop-i.least c.loop-i.greatest (omega (arith, c.loop-i-test.false)) c.loop-i.invariant).1

pub returns-clause-holds : goal.returns-clause-holds
returns-clause-holds c =
    let end = bounding-end c.args.low.now c.args.high.now c.args.factors.now c.args.cap c.loop-i.i c.loop-i.least c.loop-i.greatest (omega (arith, c.loop-i-test.false)) c.loop-i.invariant in
    rw (end.0, end.1) (holds c.args.low.now c.args.high.now c.args.factors.now c.args.cap)
