use Rattle.std.proofs.Common.{◌∙◌, ap, rules, arith, FitsSigned}
use Rattle.std.specs.Prelude.{◌-ℤ◌, ◌+ℤ◌}
use Rattle.std.proofs.lemmas.Int.{to_z-of_z}
use mir.Syntax.{w128}
use mir.Val.{to_z, of_z}
use Rattle.score_convolution.proofs.Bounding.{far-sides}
use Rattle.score_convolution.proofs.sides.far_sides.Goals as goal

pub returns-clause-sides : goal.returns-clause-sides
returns-clause-sides c =
    let far : FitsSigned w128 c.in_ok-far.far = search rules in
    let below : FitsSigned w128 c.in_ok-below.below = search rules in
    let above : FitsSigned w128 c.in_ok-above.above = search rules in
    let far_is = to_z-of_z w128 c.in_ok-far.far far ∙ c.in_ok-far.ensures.1 in
    let centre_is = to_z-of_z w128 c.args.centre c.ranges.centre in
    far-sides c.args.factor c.args.centre c.args.distance _ _ c.apart.result (omega (arith, c.if-distance-eq0.false))
    (to_z-of_z w128 c.in_ok-below.below below ∙ c.in_ok-below.ensures.1 ∙ ap (λ z. z -ℤ to_z w128 (of_z w128 c.in_ok-far.far)) centre_is ∙ ap (λ z. c.args.centre -ℤ z) far_is)
    (to_z-of_z w128 c.in_ok-above.above above ∙ c.in_ok-above.ensures.1 ∙ ap (λ z. z +ℤ to_z w128 (of_z w128 c.in_ok-far.far)) centre_is ∙ ap (λ z. c.args.centre +ℤ z) far_is)
    c.apart.ensures.pass
    c.apart.ensures.ordered
