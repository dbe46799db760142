use Rattle.std.proofs.Common.{◌≡◌, ◌+◌, ◌-◌, ◌<◌, ℕ, List, length, get_or, arith, sym, ◌∙◌, length-set}
use Rattle.std.proofs.lemmas.List.{drop-set-lt}
use Rattle.weights.specs.Grouped.{minus}
use Rattle.weights.proofs.Sized.{length-minus}
use Rattle.label_network.proofs.Rows.{fits-long, get-within, grown, minus-at, written}
use Rattle.kendall_test.proofs.PairLoops.{same-at, same-next}
use Rattle.kendall_test.proofs.counts.take_choice.Goals as goal

pub overflow_sub-counts : goal.overflow_sub-counts
overflow_sub-counts c =
    let here = same-at c.loop-i.counts c.args.counts.now c.loop-i.i (omega (arith, c.loop-i.invariant.long, c.loop-i-test.true)) (omega (arith, c.loop-i-test.true)) c.loop-i.invariant.left in
    omega (arith, here, get-within c.args.counts.now c.args.choice.now c.loop-i.i c.requires)

pub loop-i-preserved : goal.loop-i-preserved
loop-i-preserved c =
    let old : List ℕ = c.args.counts.now in
    let inside : c.loop-i.i < length old = omega (arith, c.loop-i-test.true) in
    let here = same-at c.loop-i.counts old c.loop-i.i (omega (arith, c.loop-i.invariant.long, inside)) inside c.loop-i.invariant.left in
    let goal_long : length (minus old c.args.choice.now) ≡ length old = length-minus old c.args.choice.now in
    let at = minus-at old c.args.choice.now c.loop-i.i inside (fits-long c.args.choice.now old c.requires) in
    record {
      long = length-set c.loop-i.counts c.loop-i.i (get_or c.loop-i.counts c.loop-i.i 0 - get_or c.args.choice.now c.loop-i.i 0) ∙ c.loop-i.invariant.long;
      filled = grown c.loop-i.counts (minus old c.args.choice.now) c.loop-i.i (get_or c.loop-i.counts c.loop-i.i 0 - get_or c.args.choice.now c.loop-i.i 0) 0 (omega (arith, c.loop-i.invariant.long, inside)) (omega (arith, goal_long, inside)) c.loop-i.invariant.filled (omega (arith, here, at));
      left = drop-set-lt (c.loop-i.i + 1) c.loop-i.counts c.loop-i.i (get_or c.loop-i.counts c.loop-i.i 0 - get_or c.args.choice.now c.loop-i.i 0) (omega arith) ∙ same-next c.loop-i.counts old c.loop-i.i c.loop-i.invariant.left;
    }

pub returns : goal.returns
returns c =
    let all : c.loop-i.i ≡ length c.args.counts.now = omega (arith, c.loop-i-test.false) in
    written c.loop-i.counts (minus c.args.counts.now c.args.choice.now) c.loop-i.i (c.loop-i.invariant.long ∙ sym all) (length-minus c.args.counts.now c.args.choice.now ∙ sym all) c.loop-i.invariant.filled
