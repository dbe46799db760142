use Rattle.std.proofs.Common.{◌∙◌, arith, rules, sym}
use Rattle.std.specs.Prelude.{pos, ◌*ℤ◌, unsigned_abs}
use Rattle.std.proofs.Math.Nat.{mul-le-mul_right}
use mir.Syntax.{w128}
use mir.Val.{to_z, of_z}
use Rattle.std.proofs.lemmas.Int.{to_z-of_z}
use Rattle.pooled_columns.proofs.GroupFacts.{at-within}
use Rattle.kruskal_wallis.specs.RankSums.{score_parts}
use Rattle.label_network.proofs.Rows.{grown, written}
use Rattle.kruskal_wallis.proofs.RankNarrows.{length-parts}
use Rattle.kruskal_wallis.proofs.RankWriting.{part-at}
use Rattle.kruskal_wallis.proofs.rank_sums.score_parts.Goals as goal

pub count_times-requires : goal.count_times-requires
count_times-requires c =
    rw (to_z-of_z w128 c.args.score (search rules)) (omega (arith, (mul-le-mul_right (unsigned_abs c.args.score) (at-within c.args.counts.now c.loop-i.i)), c.requires.fits))

pub loop-i-preserved : goal.loop-i-preserved
loop-i-preserved c =
    let given = rw (to_z-of_z w128 c.args.score (search rules)) at c.count_times.ensures in
    let filled = rw (to_z-of_z w128 c.args.score (search rules)) at c.loop-i.invariant.filled in
    rw (to_z-of_z w128 c.args.score (search rules)) (record {
      long = search rules;
      filled = grown c.loop-i.parts (score_parts c.args.score c.args.counts.now) c.loop-i.i (to_z w128 (of_z w128 c.count_times.result)) (pos 0) (omega (arith, c.loop-i.invariant.long, c.loop-i-test.true)) (omega (arith, length-parts c.args.score c.args.counts.now, c.loop-i-test.true)) filled
          (to_z-of_z w128 c.count_times.result (search rules) ∙ given ∙ sym (part-at (λ n. pos n *ℤ c.args.score) c.args.counts.now c.loop-i.i c.loop-i-test.true));
    })

pub returns : goal.returns
returns c =
    let filled = rw (to_z-of_z w128 c.args.score (search rules)) at c.loop-i.invariant.filled in
    written c.loop-i.parts (score_parts c.args.score c.args.counts.now) c.loop-i.i (omega (arith, c.loop-i.invariant.long, c.loop-i-test.false)) (omega (arith, length-parts c.args.score c.args.counts.now, c.loop-i-test.false)) filled
