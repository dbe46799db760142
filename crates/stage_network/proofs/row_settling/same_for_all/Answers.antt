use Rattle.std.proofs.Common.{arith}
use Rattle.std.proofs.lemmas.Int.{to_z-of_z}
use mir.Syntax.{w128}
use Rattle.weights.specs.declared.tails.Tail.TheVariants.{Less, Greater, Two}
use Rattle.stage_network.proofs.row_settling.same_for_all.Goals as goal

pub returns : goal.returns
returns g c Less d few reached = (rw (to_z-of_z w128 c.args.partial c.ranges.partial) at c.same_for_asked-less.ensures) d (omega (arith, few, c.min.ensures, c.min-2.ensures)) reached
returns g c Greater d few reached = (rw (to_z-of_z w128 c.args.partial c.ranges.partial) at c.same_for_asked-greater.ensures) d (omega (arith, few, c.min.ensures, c.min-2.ensures)) reached
returns g c Two d few reached = (rw (to_z-of_z w128 c.args.partial c.ranges.partial) at c.same_for_asked-two.ensures) d (omega (arith, few, c.min.ensures, c.min-2.ensures)) reached
