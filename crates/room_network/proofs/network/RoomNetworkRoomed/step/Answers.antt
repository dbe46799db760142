use Rattle.room_network.specs.Meanings.{IsStep, Meaning}
use Rattle.room_network.specs.Plans.{Plan}
use Rattle.room_network.proofs.NetworkParts.{room_move}
use Rattle.room_network.proofs.network.RoomNetworkRoomed.step.Goals as goal

pub step-requires-clause-way : goal.step-requires-clause-way
step-requires-clause-way g c =
    let m : Meaning = g.M.Measure.meaning c.self.inside.measure in
    let plan : Plan = g.R.Rooms.plan c.self.inside.rooms in
    let partial = c.requires.arc.partial in
    let way : IsStep m c.args.stage c.args.room.now c.args.choice.now = record {
      partial = partial;
      move = room_move plan m c.self.invariant c.args.stage c.args.room.now partial (rw (← c.self.view_is) at c.requires.arc.wide) (rw (← c.self.view_is) at c.requires.arc.reached) (rw (← c.self.view_is) at c.requires.before) c.args.choice.now (rw (← c.self.view_is) at c.requires.arc.allowed);
    } in
    way
