use Rattle.std.proofs.Common.{rules, arith, get_or, ◌∙◌, FitsSigned}
use Rattle.std.specs.Prelude.{pos}
use mir.Syntax.{w128}
use Rattle.std.proofs.lemmas.Int.{to_z-of_z}
use Rattle.kendall_test.proofs.PairSums.{over-all, over-next}
use Rattle.kendall_test.proofs.kendall_sums.pairs_over.Goals as goal

pub loop-i-preserved : goal.loop-i-preserved
loop-i-preserved c =
    let b : FitsSigned w128 (get_or c.args.firsts.now c.loop-i.i (pos 0)) = search rules in
    let sum = rw (to_z-of_z w128 (get_or c.args.firsts.now c.loop-i.i (pos 0)) b) at c.pairs_with-pairs.ensures.sum in
    record {
      few = omega (arith, c.loop-i.invariant.few, c.pairs_with-pairs.ensures.few, c.requires.few);
      here = omega (arith, c.loop-i.invariant.here, sum, over-next c.args.concordant c.args.firsts.now c.args.seconds.now c.requires.long c.loop-i.i c.loop-i-test.true);
    }

pub returns-clause-sum : goal.returns-clause-sum
returns-clause-sum c = c.loop-i.invariant.here ∙ over-all c.args.concordant c.args.firsts.now c.args.seconds.now c.requires.long c.loop-i.i (omega (arith, c.loop-i-test.false))
