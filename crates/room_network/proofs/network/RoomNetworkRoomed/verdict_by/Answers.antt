use Rattle.room_network.specs.Meanings.{Meaning}
use Rattle.room_network.specs.Plans.{Plan}
use Rattle.room_network.proofs.NetworkParts.{room_reached}
use Rattle.room_network.proofs.network.RoomNetworkRoomed.verdict_by.Goals as goal

pub verdict_by-requires-clause-reached : goal.verdict_by-requires-clause-reached
verdict_by-requires-clause-reached g c =
    let m : Meaning = g.M.Measure.meaning c.self.inside.measure in
    let plan : Plan = g.R.Rooms.plan c.self.inside.rooms in
    room_reached plan m c.self.invariant c.args.stage c.args.room.now c.args.partial.now (rw (← c.self.view_is) at c.requires.room) (rw (← c.self.view_is) at c.requires.reached)
