use Rattle.kendall_test.proofs.KendallPlans.{plan_sound}
use Rattle.kendall_test.proofs.kendall_rooms.KendallRoomsRooms.stages.Goals as goal

pub returns-clause-sound : goal.returns-clause-sound
returns-clause-sound c = plan_sound c.args.self.now.counts.columns.items c.args.self.now.counts.rows.items c.args.self.now.counts.right
