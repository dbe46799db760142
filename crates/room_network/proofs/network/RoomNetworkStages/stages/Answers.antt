use Rattle.room_network.proofs.RoomLaws.{room_lawful}
use Rattle.room_network.specs.Meanings.{Meaning}
use Rattle.room_network.specs.Plans.{Plan}
use Rattle.room_network.proofs.network.RoomNetworkStages.stages.Goals as goal

pub returns-clause-lawful : goal.returns-clause-lawful
returns-clause-lawful g c =
    let m : Meaning = g.M.Measure.meaning c.self.inside.measure in
    let plan : Plan = g.R.Rooms.plan c.self.inside.rooms in
    rw (← c.self.view_is) (room_lawful plan m c.self.invariant.plan_sound c.self.invariant.housed c.self.invariant.measure_sound)
