use Rattle.std.proofs.Common.{arith, subst, sym}
use mir.Syntax.{w128}
use Rattle.std.proofs.lemmas.Int.{to_z_pos}
use Rattle.rank_assignments.specs.BoundSteps.{IsSmall}
use Rattle.rank_assignments.proofs.AssignmentSteps.{squares-small}
use Rattle.rank_assignments.proofs.assigned_sums.interval_of.Goals as goal

pub returns-clause-low_small : goal.returns-clause-low_small
returns-clause-low_small c = subst IsSmall (sym (to_z_pos w128 c.args.low (omega (arith, c.requires.low)))) (squares-small c.args.low c.requires.low)

pub returns-clause-high_small : goal.returns-clause-high_small
returns-clause-high_small c = subst IsSmall (sym (to_z_pos w128 c.args.high (omega (arith, c.requires.high)))) (squares-small c.args.high c.requires.high)
