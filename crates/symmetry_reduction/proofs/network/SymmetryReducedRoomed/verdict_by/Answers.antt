use Rattle.std.proofs.Common.{◌++◌}
use Rattle.symmetry_reduction.proofs.network.SymmetryReducedRoomed.verdict_by.Goals as goal

pub verdict_by-requires-clause-reached : goal.verdict_by-requires-clause-reached
verdict_by-requires-clause-reached g c = c.self.invariant.ordered.reached c.args.stage (c.args.room.now ++ c.args.partial.now) (rw (← c.self.view_is) at c.requires.reached)
