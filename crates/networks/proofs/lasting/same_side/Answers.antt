use Rattle.std.proofs.Common.{◌∙◌, arith, rules}
use mir.Syntax.{w128}
use Rattle.std.proofs.lemmas.Int.{to_z-of_z}
use Rattle.networks.proofs.lasting.same_side.Goals as goal

pub returns-clause-within : goal.returns-clause-within
returns-clause-within c = λ d few. rw (to_z-of_z w128 c.args.a c.ranges.a, to_z-of_z w128 c.negated.result (search rules) ∙ c.negated.ensures) at (c.same_within-beneath.ensures.within d (omega (arith, few, c.min.ensures)))
