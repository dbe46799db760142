use Rattle.std.proofs.Common.{List, get_or, ◌∙◌, ap, subst, rules, FitsSigned}
use Rattle.std.specs.Prelude.{ℤ, pos, unsigned_abs}
use Rattle.std.specs.Int.{IsGcd}
use Rattle.std.proofs.lemmas.Int.{to_z-of_z}
use mir.Syntax.{w128}
use Rattle.score_convolution.proofs.Strides.{divisor-step}
use Rattle.score_convolution.proofs.cutting.common_divisor.Goals as goal

pub loop-i-preserved : goal.loop-i-preserved
loop-i-preserved c =
    let scores : List ℤ = c.args.scores.now in
    let score : ℤ = get_or scores c.loop-i.i (pos 0) in
    let fits : FitsSigned w128 score = search rules in
    let size = c.unsigned_abs.ensures.value ∙ ap unsigned_abs (to_z-of_z w128 score fits) in
    divisor-step scores c.loop-i.i c.loop-i.divisor c.gcd-divisor.result c.loop-i-test.true c.loop-i.invariant (subst (λ n. IsGcd c.loop-i.divisor n c.gcd-divisor.result) size c.gcd-divisor.ensures)
