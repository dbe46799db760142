use Rattle.sorted_tables.proofs.SortedPlans.{sorted_plan_sound}
use Rattle.sorted_tables.proofs.rooms.SortedRoomsRooms.stages.Goals as goal

pub returns-clause-sound : goal.returns-clause-sound
returns-clause-sound c = sorted_plan_sound c.args.self.now.columns.items c.args.self.now.rows.items c.args.self.now.binomials.width c.args.self.now.right
