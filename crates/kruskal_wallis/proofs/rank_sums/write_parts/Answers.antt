use Rattle.std.proofs.Common.{◌∙◌, ℤ, List, arith, rules, sym}
use Rattle.std.specs.Prelude.{pos}
use mir.Syntax.{w128}
use mir.Val.{to_z, of_z}
use Rattle.std.proofs.lemmas.Int.{to_z-of_z}
use Rattle.std.proofs.lemmas.List.{length-map}
use Rattle.later_scores.specs.LaterSums.{later_scores, part_sum}
use Rattle.later_scores.specs.LaterSteps.{better_of}
use Rattle.label_network.proofs.Rows.{grown, written}
use Rattle.kruskal_wallis.specs.RankSumSteps.{parts_of}
use Rattle.kruskal_wallis.proofs.RankWriting.{part-at}
use Rattle.kruskal_wallis.proofs.rank_sums.write_parts.Goals as goal

pub part-requires-clause-few : goal.part-requires-clause-few
part-requires-clause-few c = c.requires.held.few c.loop-i.i

pub part-requires-clause-held : goal.part-requires-clause-held
part-requires-clause-held c = c.requires.held.held c.loop-i.i

pub loop-i-preserved : goal.loop-i-preserved
loop-i-preserved c =
    let later : List ℤ = later_scores c.args.later.now.scores.items c.args.later.now.columns.items c.args.stage in
    record {
      long = search rules;
      filled = grown c.loop-i.parts (parts_of c.args.end later c.args.sizes.now) c.loop-i.i (to_z w128 (of_z w128 c.part.result)) (pos 0) (omega (arith, c.loop-i.invariant.long, c.loop-i-test.true)) (omega (arith, length-map c.args.sizes.now (λ n. part_sum (better_of c.args.end) n later), c.loop-i-test.true)) c.loop-i.invariant.filled
          (to_z-of_z w128 c.part.result (search rules) ∙ c.part.ensures ∙ sym (part-at (λ n. part_sum (better_of c.args.end) n later) c.args.sizes.now c.loop-i.i c.loop-i-test.true));
    }

pub returns : goal.returns
returns c =
    let later : List ℤ = later_scores c.args.later.now.scores.items c.args.later.now.columns.items c.args.stage in
    written c.loop-i.parts (parts_of c.args.end later c.args.sizes.now) c.loop-i.i (omega (arith, c.loop-i.invariant.long, c.loop-i-test.false)) (omega (arith, length-map c.args.sizes.now (λ n. part_sum (better_of c.args.end) n later), c.loop-i-test.false)) c.loop-i.invariant.filled
