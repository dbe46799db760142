use Rattle.std.proofs.Common.{◌*◌, rules, get_or, FitsSigned, ap, arith}
use Rattle.std.specs.Prelude.{pos}
use mir.Syntax.{w32}
use Rattle.std.proofs.lemmas.Int.{to_z-of_z}
use Rattle.completion_bounds.proofs.Bounding.{squaring-end, squaring-fits, squaring-more}
use Rattle.completion_bounds.proofs.boxes.narrow_squares.Goals as goal

pub plus_square-least-requires : goal.plus_square-least-requires
plus_square-least-requires c =
    let one : FitsSigned w32 (get_or c.args.low.now c.loop-i.i (pos 0)) = search rules in
    let two : FitsSigned w32 (get_or c.args.high.now c.loop-i.i (pos 0)) = search rules in
    let a = rw (to_z-of_z w32 (get_or c.args.low.now c.loop-i.i (pos 0)) one, to_z-of_z w32 (get_or c.args.high.now c.loop-i.i (pos 0)) two) at c.nearest.ensures in
    omega (arith, c.requires.fits, (squaring-fits c.args.low.now c.args.high.now c.args.factors.now 0 c.loop-i.i c.requires.highs c.requires.factors c.loop-i.least c.loop-i.greatest c.loop-i-test.true c.loop-i.invariant).0, ap (λ n. get_or c.args.factors.now c.loop-i.i 0 * (n * n)) a)

pub plus_square-greatest-requires : goal.plus_square-greatest-requires
plus_square-greatest-requires c =
    let one : FitsSigned w32 (get_or c.args.low.now c.loop-i.i (pos 0)) = search rules in
    let two : FitsSigned w32 (get_or c.args.high.now c.loop-i.i (pos 0)) = search rules in
    let b = rw (to_z-of_z w32 (get_or c.args.low.now c.loop-i.i (pos 0)) one, to_z-of_z w32 (get_or c.args.high.now c.loop-i.i (pos 0)) two) at c.farthest.ensures in
    omega (arith, c.requires.fits, (squaring-fits c.args.low.now c.args.high.now c.args.factors.now 0 c.loop-i.i c.requires.highs c.requires.factors c.loop-i.least c.loop-i.greatest c.loop-i-test.true c.loop-i.invariant).1, ap (λ n. get_or c.args.factors.now c.loop-i.i 0 * (n * n)) b)

pub loop-i-preserved : goal.loop-i-preserved
loop-i-preserved c =
    let one : FitsSigned w32 (get_or c.args.low.now c.loop-i.i (pos 0)) = search rules in
    let two : FitsSigned w32 (get_or c.args.high.now c.loop-i.i (pos 0)) = search rules in
    let a = rw (to_z-of_z w32 (get_or c.args.low.now c.loop-i.i (pos 0)) one, to_z-of_z w32 (get_or c.args.high.now c.loop-i.i (pos 0)) two) at c.nearest.ensures in
    let b = rw (to_z-of_z w32 (get_or c.args.low.now c.loop-i.i (pos 0)) one, to_z-of_z w32 (get_or c.args.high.now c.loop-i.i (pos 0)) two) at c.farthest.ensures in
    squaring-more c.args.low.now c.args.high.now c.args.factors.now 0 c.loop-i.i c.requires.highs c.requires.factors c.loop-i.least c.loop-i.greatest _ _ c.nearest.result c.farthest.result c.loop-i-test.true a b c.plus_square-least.ensures c.plus_square-greatest.ensures c.loop-i.invariant

pub returns-clause-least : goal.returns-clause-least
returns-clause-least c = (squaring-end c.args.low.now c.args.high.now c.args.factors.now c.loop-i.i c.loop-i.least c.loop-i.greatest (omega (arith, c.loop-i-test.false)) c.loop-i.invariant).0

pub returns-clause-greatest : goal.returns-clause-greatest
returns-clause-greatest c = (squaring-end c.args.low.now c.args.high.now c.args.factors.now c.loop-i.i c.loop-i.least c.loop-i.greatest (omega (arith, c.loop-i-test.false)) c.loop-i.invariant).1
