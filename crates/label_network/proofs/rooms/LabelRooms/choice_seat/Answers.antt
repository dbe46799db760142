use Rattle.label_network.proofs.LabelPlans.{choice_seat}
use Rattle.label_network.proofs.rooms.LabelRooms.choice_seat.Goals as goal

pub returns : goal.returns
returns c = choice_seat _ _ _ c.args.self.now.right c.args._stage c.args._room.now c.args._choice.now c.requires.reached c.requires.allowed
