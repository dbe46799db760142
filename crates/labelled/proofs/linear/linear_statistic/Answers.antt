use Rattle.std.proofs.Common.{◌<◌, rules, arith, get_or, length}
use Rattle.std.specs.Prelude.{pos}
use mir.Syntax.{w128}
use Rattle.std.proofs.lemmas.Int.{to_z-of_z}
use Rattle.label_network.specs.Linear.{score_of}
use Rattle.labelled.proofs.LinearSteps.{summed-next, summed-room}
use Rattle.labelled.proofs.linear.linear_statistic.Goals as goal

pub plus_product-sum-requires : goal.plus_product-sum-requires
plus_product-sum-requires c =
    let there : c.loop-i.i < length c.args.labels.now = omega (arith, c.loop-i-test.true, c.requires.long) in
    rw (to_z-of_z w128 (score_of c.args.label_scores.now (get_or c.args.labels.now c.loop-i.i 0)) (search rules), to_z-of_z w128 (get_or c.args.scores.now c.loop-i.i (pos 0)) (search rules))
    (omega (arith, summed-room c.args.label_scores.now c.args.scores.now c.args.labels.now c.loop-i.i c.loop-i-test.true there _ c.loop-i.invariant, c.requires.fits))

pub loop-i-preserved : goal.loop-i-preserved
loop-i-preserved c =
    let there : c.loop-i.i < length c.args.labels.now = omega (arith, c.loop-i-test.true, c.requires.long) in
    let given = rw (to_z-of_z w128 (score_of c.args.label_scores.now (get_or c.args.labels.now c.loop-i.i 0)) (search rules), to_z-of_z w128 (get_or c.args.scores.now c.loop-i.i (pos 0)) (search rules)) at c.plus_product-sum.ensures in
    rw (to_z-of_z w128 c.plus_product-sum.result (search rules), given) (summed-next c.args.label_scores.now c.args.scores.now c.args.labels.now c.loop-i.i c.loop-i-test.true there _ c.loop-i.invariant)
