use Rattle.std.proofs.Common.{◌≡◌, ◌∙◌, ◌≤ℤ◌, refl, ap, arith, rules, FitsSigned}
use Rattle.std.specs.Prelude.{pos}
use Rattle.std.proofs.lemmas.Int.{ints, to_z-of_z}
use Rattle.std.proofs.lemmas.List.Elements.{recursion_from_All}
use mir.Syntax.{w128}
use mir.Val.{to_z, of_z}
use Rattle.scores.specs.Scores.{labelled_sum}
use Rattle.weights.specs.Numbers.{absolute_sum}
use Rattle.scores.proofs.LabelledSums.{labelled-least, labelled-most}
use Rattle.one_sample_tests.proofs.FittingSamples.{value-fits}
use Rattle.one_sample_tests.proofs.scored_marks.frame_of.Goals as goal

pub far-requires : goal.far-requires
far-requires c =
    let some = recursion_from_All (λ s. pos 0 ≤ℤ s) c.args.scored.now.list c.requires.some in
    let fits : FitsSigned w128 c.labelled_sum-statistic.result = search rules in
    let statistic : to_z w128 (of_z w128 c.labelled_sum-statistic.result) ≡ labelled_sum 1 c.args.scored.now.list c.args.marks.now = to_z-of_z w128 c.labelled_sum-statistic.result fits ∙ c.labelled_sum-statistic.ensures ∙ ap (λ ss. labelled_sum 1 ss c.args.marks.now) c.as_slice.ensures in
    let sum : to_z w128 c.args.scored.now.sum ≡ pos (absolute_sum c.args.scored.now.list) = omega (arith, ints, c.requires.sum, c.requires.fits) in
    rw (statistic, sum) (value-fits (absolute_sum c.args.scored.now.list) c.requires.fits (labelled_sum 1 c.args.scored.now.list c.args.marks.now) (labelled-least 1 c.args.scored.now.list c.args.marks.now some) (labelled-most 1 c.args.scored.now.list c.args.marks.now))

pub returns : goal.returns
returns c =
    let fits : FitsSigned w128 c.labelled_sum-statistic.result = search rules in
    let statistic : to_z w128 (of_z w128 c.labelled_sum-statistic.result) ≡ labelled_sum 1 c.args.scored.now.list c.args.marks.now = to_z-of_z w128 c.labelled_sum-statistic.result fits ∙ c.labelled_sum-statistic.ensures ∙ ap (λ ss. labelled_sum 1 ss c.args.marks.now) c.as_slice.ensures in
    let sum : to_z w128 c.args.scored.now.sum ≡ pos (absolute_sum c.args.scored.now.list) = omega (arith, ints, c.requires.sum, c.requires.fits) in
    rw (statistic, c.far.ensures, statistic, sum) refl
