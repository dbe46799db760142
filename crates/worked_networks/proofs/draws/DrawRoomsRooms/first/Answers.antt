use Rattle.std.specs.Prelude.{pos}
use Rattle.weights.proofs.Items.{two_items}
use Rattle.worked_networks.proofs.draws.DrawRoomsRooms.first.Goals as goal

pub returns : goal.returns
returns c = two_items c.args.room.now (pos 2) (pos 1) c.requires
