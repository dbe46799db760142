use Rattle.worked_networks.proofs.DrawLaws.{box_sound}
use Rattle.worked_networks.proofs.draws.DrawRoomsRooms.stages.Goals as goal

pub returns-clause-sound : goal.returns-clause-sound
returns-clause-sound c = box_sound
