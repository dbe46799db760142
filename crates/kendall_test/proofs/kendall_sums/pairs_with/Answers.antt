use Rattle.std.proofs.Common.{rules, arith, get_or, ◌∙◌, ap, FitsSigned}
use Rattle.std.specs.Prelude.{pos}
use mir.Syntax.{w128}
use mir.Val.{to_z, of_z}
use Rattle.std.proofs.lemmas.Int.{to_z-of_z}
use Rattle.sample_reader.specs.PooledSample.{paired_subjects}
use Rattle.kendall_test.specs.KendallSteps.{pairs_with}
use Rattle.kendall_test.proofs.PairSums.{with-all, with-next}
use Rattle.kendall_test.proofs.kendall_sums.pairs_with.Goals as goal

pub loop-i-preserved : goal.loop-i-preserved
loop-i-preserved c =
    let b : FitsSigned w128 (get_or c.args.firsts.now c.loop-i.i (pos 0)) = search rules in
    let pair = rw (to_z-of_z w128 (get_or c.args.firsts.now c.loop-i.i (pos 0)) b) at c.one_pair-pairs.ensures.value in
    record {
      few = omega (arith, c.loop-i.invariant.few, c.one_pair-pairs.ensures.few);
      here = omega (arith, c.loop-i.invariant.here, pair, with-next c.args.concordant c.args.firsts.now c.args.seconds.now c.requires.long (to_z w128 (of_z w128 c.args.first)) c.args.second c.loop-i.i c.loop-i-test.true);
    }

pub returns-clause-sum : goal.returns-clause-sum
returns-clause-sum c =
    let a : FitsSigned w128 c.args.first = record { sfits = c.ranges.first.sfits } in
    c.loop-i.invariant.here
    ∙ with-all c.args.concordant c.args.firsts.now c.args.seconds.now c.requires.long (to_z w128 (of_z w128 c.args.first)) c.args.second c.loop-i.i (omega (arith, c.loop-i-test.false))
    ∙ ap (λ v. pairs_with c.args.concordant v c.args.second (paired_subjects c.args.firsts.now c.args.seconds.now)) (to_z-of_z w128 c.args.first a)
