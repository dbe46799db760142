use Rattle.room_network.proofs.RoomEnds.{ends_at_members}
use Rattle.room_network.proofs.network.RoomNetwork.new.Goals as goal

pub returns-clause-ends : goal.returns-clause-ends
returns-clause-ends g c = ends_at_members (g.R.Rooms.plan c.args.rooms) (g.M.Measure.meaning c.args.measure) c.stages-count.ensures.sound c.requires c.slots-slots.ensures.sound
