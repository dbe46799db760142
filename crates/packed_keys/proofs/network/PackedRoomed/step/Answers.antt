use Rattle.packed_keys.proofs.PackedParts.{in-arc}
use Rattle.packed_keys.proofs.network.PackedRoomed.step.Goals as goal

pub step-requires-clause-arc : goal.step-requires-clause-arc
step-requires-clause-arc g c =
    in-arc c.self.invariant c.args.stage c.args.room.now c.args.choice.now (rw (← c.self.view_is) at c.requires.arc)
