use Rattle.std.proofs.Common.{◌*◌}
use mir.Syntax.{w128}
use Rattle.std.proofs.lemmas.Int.{to_z-of_z}
use Rattle.networks.proofs.LastingVerdicts.{within-quotient}
use Rattle.networks.proofs.lasting.same_apart.Goals as goal

pub returns-else-factor-eq0 : goal.returns-else-factor-eq0
returns-else-factor-eq0 c = λ d few. rw (to_z-of_z w128 c.args.a c.ranges.a, to_z-of_z w128 c.args.b c.ranges.b) at (c.same_far.ensures (c.args.factor * d) (within-quotient d c.args.factor c.same_far.result few))
