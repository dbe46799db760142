use Rattle.std.proofs.Common.{List, get_or, ◌∙◌, ap, subst, rules, FitsSigned}
use Rattle.std.specs.Prelude.{ℤ, pos, ◌-ℤ◌, unsigned_abs}
use Rattle.std.specs.Int.{IsGcd}
use Rattle.std.proofs.lemmas.Int.{to_z-of_z}
use mir.Syntax.{w128}
use mir.Val.{of_z, to_z}
use Rattle.score_convolution.proofs.Strides.{apart-step}
use Rattle.score_convolution.proofs.cutting.common_stride.Goals as goal

pub loop-i-preserved : goal.loop-i-preserved
loop-i-preserved c =
    let scores : List ℤ = c.args.scores.now in
    let score : ℤ = get_or scores c.loop-i.i (pos 0) in
    let first : ℤ = get_or scores 0 (pos 0) in
    let fits : FitsSigned w128 score = search rules in
    let first_fits : FitsSigned w128 first = search rules in
    let apart = c.abs_diff.ensures ∙ ap (λ z. unsigned_abs (z -ℤ to_z w128 (of_z w128 first))) (to_z-of_z w128 score fits) ∙ ap (λ z. unsigned_abs (score -ℤ z)) (to_z-of_z w128 first first_fits) in
    apart-step scores c.loop-i.i c.loop-i.stride c.gcd-stride.result c.loop-i.auto.i c.loop-i-test.true c.loop-i.invariant (subst (λ n. IsGcd c.loop-i.stride n c.gcd-stride.result) apart c.gcd-stride.ensures)
