use Rattle.std.proofs.Common.{◌<◌, rules, arith, FitsSigned, get_or, length}
use Rattle.std.specs.Prelude.{pos}
use mir.Syntax.{w128}
use Rattle.std.proofs.lemmas.Int.{to_z-of_z}
use Rattle.scores.proofs.LabelledSums.{labelled-end, labelled-first, labelled-next, labelled-room}
use Rattle.scores.proofs.labelled_sums.labelled_sum.Goals as goal

pub loop-i-init : goal.loop-i-init
loop-i-init c = labelled-first c.args.label c.args.scores.now c.args.labels.now

pub plus_labelled-sum-requires : goal.plus_labelled-sum-requires
plus_labelled-sum-requires c =
    let v : FitsSigned w128 (get_or c.args.scores.now c.loop-i.i (pos 0)) = search rules in
    let here : c.loop-i.i < length c.args.scores.now = omega (arith, c.loop-i-test.true, c.min-i-end.ensures) in
    let there : c.loop-i.i < length c.args.labels.now = omega (arith, c.loop-i-test.true, c.min-i-end.ensures) in
    let fits = labelled-room c.args.label c.args.scores.now c.args.labels.now c.loop-i.i here there _ c.loop-i.invariant in
    rw (to_z-of_z w128 (get_or c.args.scores.now c.loop-i.i (pos 0)) v) (omega (arith, fits, c.requires))

pub loop-i-preserved : goal.loop-i-preserved
loop-i-preserved c =
    let v : FitsSigned w128 (get_or c.args.scores.now c.loop-i.i (pos 0)) = search rules in
    let s : FitsSigned w128 c.plus_labelled-sum.result = search rules in
    let here : c.loop-i.i < length c.args.scores.now = omega (arith, c.loop-i-test.true, c.min-i-end.ensures) in
    let there : c.loop-i.i < length c.args.labels.now = omega (arith, c.loop-i-test.true, c.min-i-end.ensures) in
    let given = rw (to_z-of_z w128 (get_or c.args.scores.now c.loop-i.i (pos 0)) v) at c.plus_labelled-sum.ensures in
    rw (to_z-of_z w128 c.plus_labelled-sum.result s, given) (labelled-next c.args.label c.args.scores.now c.args.labels.now c.loop-i.i here there _ c.loop-i.invariant)

pub returns : goal.returns
returns c =
    labelled-end c.args.label c.args.scores.now c.args.labels.now c.loop-i.i _ (λ here there. omega (arith, here, there, c.loop-i-test.false, c.min-i-end.ensures)) c.loop-i.invariant
