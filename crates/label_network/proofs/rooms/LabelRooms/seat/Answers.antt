use Rattle.label_network.proofs.LabelPlans.{room_parts}
use Rattle.label_network.proofs.rooms.LabelRooms.seat.Goals as goal

pub returns : goal.returns
returns c = room_parts _ _ _ c.args.self.now.right c.args._stage c.args._room.now c.requires
