use Rattle.std.proofs.Common.{◌∙◌, arith, get_or, rules}
use Rattle.std.specs.Prelude.{pos}
use mir.Syntax.{w128}
use mir.Val.{to_z, of_z}
use Rattle.std.proofs.lemmas.Int.{to_z-of_z}
use Rattle.symmetry_reduction.proofs.GroupSums.{all-sums, more-sums}
use Rattle.kruskal_wallis.proofs.rank_sums.plus_each.Goals as goal

pub plus-requires : goal.plus-requires
plus-requires c =
    rw (to_z-of_z w128 (get_or c.args.partial.now c.loop-i.i (pos 0)) (search rules), to_z-of_z w128 (get_or c.args.added.now c.loop-i.i (pos 0)) (search rules)) (c.requires.fits.each c.loop-i.i c.loop-i-test.true)

pub loop-i-preserved : goal.loop-i-preserved
loop-i-preserved c =
    let given = rw (to_z-of_z w128 (get_or c.args.partial.now c.loop-i.i (pos 0)) (search rules), to_z-of_z w128 (get_or c.args.added.now c.loop-i.i (pos 0)) (search rules)) at c.plus.ensures in
    record {
      long = search rules;
      filled = more-sums c.loop-i.next c.args.partial.now c.args.added.now c.loop-i.i (to_z w128 (of_z w128 c.plus.result)) c.requires.one_each c.loop-i.invariant.long c.loop-i-test.true c.loop-i.invariant.filled (to_z-of_z w128 c.plus.result (search rules) ∙ given);
    }

pub returns : goal.returns
returns c = all-sums c.loop-i.next c.args.partial.now c.args.added.now c.loop-i.i c.requires.one_each c.loop-i.invariant.long (omega (arith, c.loop-i-test.false)) c.loop-i.invariant.filled
