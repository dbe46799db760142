use Rattle.std.proofs.Common.{◌∙◌, ap, cond, length, map, sym}
use Rattle.std.specs.Prelude.{pos}
use Rattle.weights.specs.Grouped.{minus}
use Rattle.label_network.specs.Meanings.{sizes_in}
use Rattle.label_network.proofs.Narrowing.{chosen}
use Rattle.rank_assignments.specs.Assignments.{assignment_at, unassigned}
use Rattle.rank_assignments.specs.declared.assignment.Assignment.{Assignment}
use Rattle.rank_assignments.proofs.AssignmentRooms.{assigned_room}
use Rattle.rank_assignments.proofs.AssignmentSteps.{room-sizes}
use Rattle.rank_assignments.proofs.assigned_sums.AssignmentRoomsRooms.cross.Goals as goal

pub write_left-requires-clause-sizes : goal.write_left-requires-clause-sizes
write_left-requires-clause-sizes c = (let s = c.args.self.now.assignments in room-sizes s.treatments s.items.items s.judge s.right c.args.stage c.args.room.now (assigned_room s.treatments s.items.items s.judge s.right c.args.stage c.args.room.now c.requires.reached))

pub write_left-requires-clause-fitting : goal.write_left-requires-clause-fitting
write_left-requires-clause-fitting c = (let s = c.args.self.now.assignments in (chosen (assignment_at s.items.items c.args.stage).count (sizes_in c.args.room.now) c.args.choice.now c.requires.allowed).fitting)

pub write_left-requires-clause-long : goal.write_left-requires-clause-long
write_left-requires-clause-long c = (let s = c.args.self.now.assignments in c.requires.room ∙ sym (assigned_room s.treatments s.items.items s.judge s.right c.args.stage c.args.room.now c.requires.reached).long)

pub returns-clause-next : goal.returns-clause-next
returns-clause-next c =
    let s = c.args.self.now.assignments in
    c.write_left.ensures
    ∙ ap (λ (v : Assignment). cond v.closes (unassigned (length c.args.room.now)) (map pos (minus (sizes_in c.args.room.now) c.args.choice.now))) c.assignment.ensures
    ∙ ap (λ n. cond (assignment_at s.items.items c.args.stage).closes (unassigned n) (map pos (minus (sizes_in c.args.room.now) c.args.choice.now))) (assigned_room s.treatments s.items.items s.judge s.right c.args.stage c.args.room.now c.requires.reached).long
