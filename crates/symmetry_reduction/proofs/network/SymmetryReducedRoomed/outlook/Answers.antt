use Rattle.symmetry_reduction.proofs.ReducedParts.{in-place}
use Rattle.symmetry_reduction.proofs.network.SymmetryReducedRoomed.outlook.Goals as goal

pub outlook-requires-clause-place : goal.outlook-requires-clause-place
outlook-requires-clause-place g c = in-place c.self.invariant c.args.stage c.args.room.now (rw (← c.self.view_is) at c.requires.place)
