use Rattle.room_network.specs.Meanings.{IsRoom, Meaning}
use Rattle.room_network.specs.Plans.{Plan}
use Rattle.room_network.proofs.NetworkParts.{room_reached}
use Rattle.room_network.proofs.network.RoomNetworkRoomed.outlook.Goals as goal

pub outlook-requires-clause-room : goal.outlook-requires-clause-room
outlook-requires-clause-room g c =
    let m : Meaning = g.M.Measure.meaning c.self.inside.measure in
    let plan : Plan = g.R.Rooms.plan c.self.inside.rooms in
    let partial = c.requires.place.partial in
    let room : IsRoom m c.args.stage c.args.room.now = record {
      partial = partial;
      reached = room_reached plan m c.self.invariant c.args.stage c.args.room.now partial (rw (← c.self.view_is) at c.requires.place.wide) (rw (← c.self.view_is) at c.requires.place.reached);
    } in
    room
