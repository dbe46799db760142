use Rattle.label_network.proofs.LabelPlans.{label_plan_sound}
use Rattle.label_network.proofs.rooms.LabelRoomsRooms.stages.Goals as goal

pub returns-clause-sound : goal.returns-clause-sound
returns-clause-sound c = label_plan_sound c.args.self.now.columns.items c.args.self.now.rows.items c.args.self.now.right.sound
