use Rattle.std.proofs.Common.{◌≡◌, ◌-◌, ◌∙◌, get_or, arith, rules, sym, ap}
use Rattle.weights.specs.Grouped.{minus}
use Rattle.weights.proofs.Sized.{length-minus}
use Rattle.label_network.proofs.Rows.{grown, written}
use Rattle.label_network.proofs.Rearranging.{get-minus}
use Rattle.label_network.proofs.Rows.{get-within}
use Rattle.ordered_samples.proofs.Placing.{same-at, same-later}
use Rattle.ordered_samples.proofs.pair_points.take_away.Goals as goal

pub overflow_sub-left : goal.overflow_sub-left
overflow_sub-left c = omega (arith, get-within c.args.left.now c.args.column.now c.loop-i.i c.requires, same-at c.loop-i.left c.args.left.now c.loop-i.i c.loop-i.invariant.rest)

pub loop-i-preserved : goal.loop-i-preserved
loop-i-preserved c =
    let goal_at : get_or (minus c.args.left.now c.args.column.now) c.loop-i.i 0 ≡ get_or c.args.left.now c.loop-i.i 0 - get_or c.args.column.now c.loop-i.i 0 = get-minus c.args.left.now c.args.column.now c.loop-i.i c.requires in
    let here : get_or c.loop-i.left c.loop-i.i 0 ≡ get_or c.args.left.now c.loop-i.i 0 = same-at c.loop-i.left c.args.left.now c.loop-i.i c.loop-i.invariant.rest in
    record {
      long = search rules;
      filled = grown c.loop-i.left (minus c.args.left.now c.args.column.now) c.loop-i.i (get_or c.loop-i.left c.loop-i.i 0 - get_or c.args.column.now c.loop-i.i 0) 0 (omega (arith, c.loop-i.invariant.long, c.loop-i-test.true)) (omega (arith, length-minus c.args.left.now c.args.column.now, c.loop-i-test.true)) c.loop-i.invariant.filled (ap (λ n. n - get_or c.args.column.now c.loop-i.i 0) here ∙ sym goal_at);
      rest = same-later c.loop-i.left c.args.left.now c.loop-i.i _ c.loop-i.invariant.rest;
    }

pub returns : goal.returns
returns c = written c.loop-i.left (minus c.args.left.now c.args.column.now) c.loop-i.i (omega (arith, c.loop-i.invariant.long, c.loop-i-test.false)) (omega (arith, length-minus c.args.left.now c.args.column.now, c.loop-i-test.false)) c.loop-i.invariant.filled
