use Rattle.std.proofs.Common.{◌≡◌, ◌≤◌, ◌∙◌, ap, min, arith, ℕ}
use mir.Syntax.{w128}
use Rattle.std.proofs.lemmas.Int.{to_z_pos}
use Rattle.completion_bounds.specs.Boxes.{factored_squares}
use Rattle.completion_bounds.proofs.Narrowing.{least_squares-point}
use Rattle.kruskal_wallis.proofs.group_sums.squares_of.Goals as goal

whole : (n bound : ℕ) → n ≤ bound → min n bound ≡ n
whole n bound h = omega (arith, h)

pub returns : goal.returns
returns c =
    let sum : c.box_bounds-sum.result.0 ≡ factored_squares c.args.point.now c.args.factors.now =
    c.box_bounds-sum.ensures.least ∙ ap (λ n. min n c.args.bound) (least_squares-point c.args.point.now c.args.factors.now) ∙ whole (factored_squares c.args.point.now c.args.factors.now) c.args.bound c.requires.within in
    rw sum (to_z_pos w128 (factored_squares c.args.point.now c.args.factors.now) (omega (arith, c.requires.within, c.requires.fits)))
