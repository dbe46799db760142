use mir.Syntax.{w128}
use Rattle.std.proofs.lemmas.Int.{to_z-of_z}
use Rattle.symmetry_reduction.proofs.network.SymmetryReducedRoomed.same_for.Goals as goal

pub returns : goal.returns
returns g c = λ d few. rw (to_z-of_z w128 c.args.partial c.ranges.partial) at (c.same_for.ensures d few)
