use Rattle.std.proofs.Common.{arith}
use Rattle.weights.proofs.RangeSums.{added-next, added-within}
use Rattle.zelen_test.specs.ZelenSteps.{choice_from, choice_to, counted_cell}
use Rattle.zelen_test.proofs.later_sums.counted.Goals as goal

pub returns-in_err-counted_cell : goal.returns-in_err-counted_cell
returns-in_err-counted_cell c =
    let within = added-within (counted_cell c.args.stratum c.args.later.now c.args.left) (choice_from c.args.stratum c.args.later.now c.args.left) (choice_to c.args.stratum c.args.later.now c.args.left) c.loop-cell.cell c.loop-cell.all (omega (arith, c.loop-cell-test.true, c.choice_to-to.ensures)) c.loop-cell.invariant in
    rw c.from_residual.ensures (λ whole. c.in_err-counted_cell.ensures (omega (arith, within, whole)))

pub returns-in_err-all : goal.returns-in_err-all
returns-in_err-all c =
    let within = added-within (counted_cell c.args.stratum c.args.later.now c.args.left) (choice_from c.args.stratum c.args.later.now c.args.left) (choice_to c.args.stratum c.args.later.now c.args.left) c.loop-cell.cell c.loop-cell.all (omega (arith, c.loop-cell-test.true, c.choice_to-to.ensures)) c.loop-cell.invariant in
    rw c.from_residual-in_err-all.ensures (λ whole. c.in_err-all.ensures (rw c.in_ok-counted_cell.ensures.1 (omega (arith, within, whole))))

pub loop-cell-preserved : goal.loop-cell-preserved
loop-cell-preserved c =
    let told = rw c.in_ok-counted_cell.ensures.1 at c.in_ok-all.ensures in
    rw told.1 (added-next _ _ _ c.loop-cell.cell c.loop-cell.all (omega (arith, c.loop-cell-test.true, c.choice_to-to.ensures)) c.loop-cell.invariant told.0)
