use Rattle.std.proofs.Common.{◌≤◌, cond, sym, ◌∙◌, subst, arith}
use Rattle.weights.specs.Labellings.{labellings}
use Rattle.weights.specs.Rules.{RuleFits, passes}
use Rattle.weights.proofs.Sums.{sum_by-one}
use Rattle.concordant_pairs.specs.ConcordantTails.{even_value}
use Rattle.std.proofs.lemmas.Int.{to_z-of_z}
use mir.Syntax.{w128}
use Rattle.concordant_pairs.proofs.Passing.{of-labelling}
use Rattle.concordant_pairs.proofs.tails.found.Goals as goal

pub passing-requires-clause-light : goal.passing-requires-clause-light
passing-requires-clause-light c = omega (arith, c.requires.alike (λ u. 1), sum_by-one (labellings c.args.sizes.now), c.requires.total)

pub passing-requires-clause-fits : goal.passing-requires-clause-fits
passing-requires-clause-fits c = rw (to_z-of_z w128 c.args.base c.ranges.base) (λ u h some. of-labelling (λ u. RuleFits c.args.rule (even_value c.args.base c.args.step u)) c.args.sizes.now c.requires.fits u (subst (λ n. 1 ≤ n) (c.requires.each u) some))

pub returns : goal.returns
returns c = (rw (to_z-of_z w128 c.args.base c.ranges.base) at c.passing.ensures) ∙ sym (c.requires.alike (λ u. cond (passes c.args.rule (even_value c.args.base c.args.step u)) 1 0))
