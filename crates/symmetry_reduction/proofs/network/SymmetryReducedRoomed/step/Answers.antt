use Rattle.symmetry_reduction.proofs.ReducedParts.{in-allowed, in-arc, in-room}
use Rattle.symmetry_reduction.proofs.network.SymmetryReducedRoomed.step.Goals as goal

pub cross-requires-clause-reached : goal.cross-requires-clause-reached
cross-requires-clause-reached g c =
    let arc = in-arc c.self.invariant c.args.stage c.args.room.now c.args.choice.now (rw (← c.self.view_is) at c.requires.arc) in
    in-room c.self.invariant c.args.stage c.args.room.now arc.partial arc.wide arc.reached

pub cross-requires-clause-allowed : goal.cross-requires-clause-allowed
cross-requires-clause-allowed g c =
    let arc = in-arc c.self.invariant c.args.stage c.args.room.now c.args.choice.now (rw (← c.self.view_is) at c.requires.arc) in
    in-allowed c.self.invariant c.args.stage c.args.room.now arc.partial c.args.choice.now arc.wide (rw (← c.self.view_is) at c.requires.before) arc.allowed

pub step-requires-clause-arc : goal.step-requires-clause-arc
step-requires-clause-arc g c = in-arc c.self.invariant c.args.stage c.args.room.now c.args.choice.now (rw (← c.self.view_is) at c.requires.arc)
