use Rattle.std.proofs.Common.{◌∙◌, ap, rules, FitsSigned}
use Rattle.std.specs.Prelude.{pos, int_le, ◌-ℤ◌, ◌*ℤ◌}
use Rattle.std.proofs.lemmas.Int.{to_z-of_z}
use mir.Syntax.{w128}
use Rattle.score_convolution.proofs.Bounding.{beyond-is}
use Rattle.score_convolution.proofs.sides.apart.Goals as goal

pub returns-clause-pass : goal.returns-clause-pass
returns-clause-pass c = λ v.
    let last : FitsSigned w128 c.in_ok-last.last = search rules in
    beyond-is (pos c.args.factor *ℤ v) c.args.below c.args.above _ _ c.in_ok-last.last v
    (ap (int_le v) (to_z-of_z w128 c.quotient.result (record { sfits = c.quotient.type_inv })) ∙ c.quotient.ensures v ∙ ap (int_le (pos c.args.factor *ℤ v)) (to_z-of_z w128 c.args.below c.ranges.below))
    (ap (int_le v) (to_z-of_z w128 c.quotient-2.result (record { sfits = c.quotient-2.type_inv })) ∙ c.quotient-2.ensures v ∙ ap (int_le (pos c.args.factor *ℤ v)) (to_z-of_z w128 c.in_ok-last.last last))
    (c.in_ok-last.ensures.1 ∙ ap (λ z. z -ℤ pos 1) (to_z-of_z w128 c.args.above c.ranges.above))
