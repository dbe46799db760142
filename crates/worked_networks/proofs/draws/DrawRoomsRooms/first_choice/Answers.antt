use Rattle.worked_networks.proofs.DrawLaws.{first-written, found}
use Rattle.worked_networks.proofs.draws.DrawRoomsRooms.first_choice.Goals as goal

pub returns : goal.returns
returns c = first-written c.args._stage c.args.room.now c.args.choice.now c.first_colour.result (found c.args._stage c.args.room.now c.requires.reached) c.requires.wide c.first_colour.ensures
