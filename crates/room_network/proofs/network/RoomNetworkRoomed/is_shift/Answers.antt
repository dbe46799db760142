use Rattle.room_network.specs.Meanings.{Meaning}
use Rattle.room_network.specs.Plans.{Plan}
use Rattle.room_network.proofs.NetworkParts.{room_shifting}
use Rattle.room_network.proofs.network.RoomNetworkRoomed.is_shift.Goals as goal

pub returns : goal.returns
returns g c = λ yes.
    let m : Meaning = g.M.Measure.meaning c.self.inside.measure in
    let plan : Plan = g.R.Rooms.plan c.self.inside.rooms in
    rw (← c.self.view_is) (room_shifting plan m c.self.invariant (c.is_shift.ensures yes))
