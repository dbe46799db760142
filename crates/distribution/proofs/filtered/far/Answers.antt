use Rattle.std.proofs.Common.{◌≡◌, ◌∙◌, ap, to_z, of_z}
use Rattle.std.specs.Prelude.{nat_le}
use Rattle.std.proofs.lemmas.Int.{to_z-of_z}
use mir.Syntax.{w128}
use Rattle.weights.specs.Conditional.{distance}
use Rattle.networks.specs.Lines.{line_sum}
use Rattle.distribution.proofs.TailLaw.{two-law}
use Rattle.distribution.proofs.filtered.far.Goals as goal

pub returns-clause-law : goal.returns-clause-law
returns-clause-law c test lines sides observed =
    let q = c.args.factor in
    let d = c.args.apart in
    let same : to_z w128 (of_z w128 c.args.centre) ≡ c.args.centre = to_z-of_z w128 c.args.centre c.ranges.centre in
    let sum : c.weight_far.result ≡ line_sum (λ v. nat_le d (distance q c.args.centre v)) c.args.spread.now = c.weight_far.ensures ∙ ap (λ m. line_sum (λ v. nat_le d (distance q m v)) c.as_slice.result.now) same ∙ ap (line_sum (λ v. nat_le d (distance q c.args.centre v))) c.as_slice.ensures.lines in
    sum ∙ two-law test c.args.spread.now q c.args.centre d lines sides observed
