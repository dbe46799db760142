use Rattle.std.proofs.Common.{◌≡◌, ◌∙◌, ap, subst}
use Rattle.std.specs.Prelude.{pos, int_le, nat_abs}
use Rattle.std.proofs.lemmas.Int.{to_z-of_z}
use mir.Syntax.{w128}
use Rattle.score_convolution.proofs.Bounding.{quotient-is}
use Rattle.score_convolution.proofs.sides.quotient.Goals as goal

pub returns-then-bound-ge0 : goal.returns-then-bound-ge0
returns-then-bound-ge0 c =
    let same = to_z-of_z w128 c.args.bound c.ranges.bound in
    quotient-is c.args.bound c.args.factor c.unsigned_abs-size.result c.requires c.ranges.bound (subst (λ z. int_le (pos 0) z ≡ _) same c.if-bound-ge0.true) (c.unsigned_abs-size.ensures.value ∙ ap nat_abs same)
