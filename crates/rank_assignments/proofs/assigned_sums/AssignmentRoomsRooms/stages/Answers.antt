use Rattle.rank_assignments.proofs.AssignmentRooms.{assignment_plan_sound}
use Rattle.rank_assignments.proofs.assigned_sums.AssignmentRoomsRooms.stages.Goals as goal

pub returns-clause-sound : goal.returns-clause-sound
returns-clause-sound c = (let s = c.args.self.now.assignments in assignment_plan_sound s.treatments s.items.items s.judge s.right)
