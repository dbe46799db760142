use Rattle.room_network.specs.Meanings.{Meaning}
use Rattle.room_network.specs.Plans.{Plan}
use Rattle.room_network.proofs.NetworkParts.{room_move}
use Rattle.room_network.proofs.network.RoomNetworkRoomed.advance.Goals as goal

pub follow-requires-clause-allowed : goal.follow-requires-clause-allowed
follow-requires-clause-allowed g c =
    let m : Meaning = g.M.Measure.meaning c.self.inside.measure in
    let plan : Plan = g.R.Rooms.plan c.self.inside.rooms in
    room_move plan m c.self.invariant c.args.stage c.args.room.now c.args.partial.now (rw (← c.self.view_is) at c.requires.room) (rw (← c.self.view_is) at c.requires.reached) (rw (← c.self.view_is) at c.requires.before) c.args.choice.now (rw (← c.self.view_is) at c.requires.allowed)
