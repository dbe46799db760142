use Rattle.std.proofs.Common.{◌≡◌, ◌∙◌, ap, to_z, of_z}
use Rattle.std.specs.Prelude.{int_le}
use Rattle.std.proofs.lemmas.Int.{to_z-of_z}
use mir.Syntax.{w128}
use Rattle.networks.specs.Lines.{line_sum}
use Rattle.distribution.proofs.TailLaw.{greater-law}
use Rattle.distribution.proofs.filtered.above.Goals as goal

pub returns-clause-law : goal.returns-clause-law
returns-clause-law c test lines observed =
    let same : to_z w128 (of_z w128 c.args.value) ≡ c.args.value = to_z-of_z w128 c.args.value c.ranges.value in
    let sum : c.weight_of.result ≡ line_sum (λ v. int_le c.args.value v) c.args.spread.now = c.weight_of.ensures ∙ ap (λ t. line_sum (λ v. int_le t v) c.as_slice.result.now) same ∙ ap (line_sum (λ v. int_le c.args.value v)) c.as_slice.ensures.lines in
    sum ∙ greater-law test c.args.spread.now c.args.value lines observed
