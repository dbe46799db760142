use Rattle.std.proofs.Common.{◌∙◌}
use Rattle.weights.specs.Conditional.{ConditionalTest}
use Rattle.stage_network.proofs.FittingLines.{tails-fit}
use Rattle.distribution.proofs.TailLaw.{tail-law}
use Rattle.distribution.proofs.answers.weight_for.Goals as goal

pub weight_of-requires-clause-fits : goal.weight_of-requires-clause-fits
weight_of-requires-clause-fits g c =
    let test : ConditionalTest = g.P.Plain.test c.args.problem.now in
    let rule = c.rule-rule.ensures test c.frame.ensures.frame in
    rw (rule, c.as_slice.ensures.lines, c.requires.lines) (tails-fit test c.frame.ensures.fits c.args.tail)

pub returns : goal.returns
returns g c =
    let test : ConditionalTest = g.P.Plain.test c.args.problem.now in
    let rule = c.rule-rule.ensures test c.frame.ensures.frame in
    rw c.weight_of.ensures (tail-law test c.args.tail c.rule-rule.result c.as_slice.result.now c.requires.goes rule (c.as_slice.ensures.lines ∙ c.requires.lines))
