use Rattle.std.proofs.Common.{◌∙◌, arith, length, rules, sym}
use Rattle.std.specs.Prelude.{pos}
use mir.Syntax.{w128}
use mir.Val.{to_z, of_z}
use Rattle.std.proofs.lemmas.Int.{to_z-of_z}
use Rattle.kruskal_wallis.specs.KruskalWallis.{group_sums}
use Rattle.label_network.proofs.Rows.{grown, written}
use Rattle.kruskal_wallis.proofs.RankValues.{length-sums}
use Rattle.kruskal_wallis.proofs.RankWriting.{sum-at}
use Rattle.kruskal_wallis.proofs.group_sums.group_sums.Goals as goal

pub labelled_sum-requires : goal.labelled_sum-requires
labelled_sum-requires c = c.requires

pub loop-i-preserved : goal.loop-i-preserved
loop-i-preserved c =
    record {
      long = search rules;
      filled = grown c.loop-i.sums (group_sums (length c.args.sums.now) c.args.scores.now c.args.labels.now) c.loop-i.i (to_z w128 (of_z w128 c.labelled_sum.result)) (pos 0) (omega (arith, c.loop-i.invariant.long, c.loop-i-test.true)) (omega (arith, length-sums (length c.args.sums.now) c.args.scores.now c.args.labels.now, c.loop-i-test.true)) c.loop-i.invariant.filled
          (to_z-of_z w128 c.labelled_sum.result (search rules) ∙ c.labelled_sum.ensures ∙ sym (sum-at (length c.args.sums.now) c.loop-i.i c.args.scores.now c.args.labels.now c.loop-i-test.true));
    }

pub returns : goal.returns
returns c = written c.loop-i.sums (group_sums (length c.args.sums.now) c.args.scores.now c.args.labels.now) c.loop-i.i (omega (arith, c.loop-i.invariant.long, c.loop-i-test.false)) (omega (arith, length-sums (length c.args.sums.now) c.args.scores.now c.args.labels.now, c.loop-i-test.false)) c.loop-i.invariant.filled
