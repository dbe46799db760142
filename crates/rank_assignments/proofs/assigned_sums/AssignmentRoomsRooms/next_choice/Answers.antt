use Rattle.std.proofs.Common.{arith}
use Rattle.rank_assignments.proofs.AssignmentRooms.{assigned_room}
use Rattle.rank_assignments.proofs.AssignmentSteps.{room-sizes, room-small}
use Rattle.rank_assignments.proofs.assigned_sums.AssignmentRoomsRooms.next_choice.Goals as goal

pub next_counts-requires-clause-sizes : goal.next_counts-requires-clause-sizes
next_counts-requires-clause-sizes c = (let s = c.args.self.now.assignments in room-sizes s.treatments s.items.items s.judge s.right c.args.stage c.args.room.now (assigned_room s.treatments s.items.items s.judge s.right c.args.stage c.args.room.now c.requires.reached))

pub next_counts-requires-clause-small : goal.next_counts-requires-clause-small
next_counts-requires-clause-small c = (let s = c.args.self.now.assignments in omega (arith, room-small s.treatments s.items.items s.judge s.right c.args.stage c.args.room.now (assigned_room s.treatments s.items.items s.judge s.right c.args.stage c.args.room.now c.requires.reached)))
