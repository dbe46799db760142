use Rattle.std.proofs.Common.{◌≡◌, ◌≤◌, ◌∙◌, ap, arith, subst, sym}
use Rattle.std.specs.List.{sum}
use Rattle.label_network.specs.LabelSteps.{least}
use Rattle.label_network.specs.Meanings.{sizes_in}
use Rattle.rank_assignments.specs.Assignments.{assignment_at}
use Rattle.rank_assignments.specs.declared.assignment.Assignment.{Assignment}
use Rattle.rank_assignments.proofs.AssignmentRooms.{enough, first_is, assigned_room}
use Rattle.rank_assignments.proofs.AssignmentSteps.{room-sizes, room-small}
use Rattle.rank_assignments.proofs.assigned_sums.AssignmentRoomsRooms.first_choice.Goals as goal

pub first_counts-requires-clause-sizes : goal.first_counts-requires-clause-sizes
first_counts-requires-clause-sizes c = (let s = c.args.self.now.assignments in room-sizes s.treatments s.items.items s.judge s.right c.args.stage c.args.room.now (assigned_room s.treatments s.items.items s.judge s.right c.args.stage c.args.room.now c.requires.reached))

pub first_counts-requires-clause-small : goal.first_counts-requires-clause-small
first_counts-requires-clause-small c = (let s = c.args.self.now.assignments in omega (arith, room-small s.treatments s.items.items s.judge s.right c.args.stage c.args.room.now (assigned_room s.treatments s.items.items s.judge s.right c.args.stage c.args.room.now c.requires.reached)))

pub first_counts-requires-clause-enough : goal.first_counts-requires-clause-enough
first_counts-requires-clause-enough c =
    let s = c.args.self.now.assignments in
    subst (λ (v : Assignment). v.count ≤ sum (sizes_in c.args.room.now)) (sym c.assignment.ensures)
    (enough s.treatments s.items.items s.judge s.right c.args.stage c.args.room.now c.requires.before (assigned_room s.treatments s.items.items s.judge s.right c.args.stage c.args.room.now c.requires.reached))

pub first_counts-requires-clause-room : goal.first_counts-requires-clause-room
first_counts-requires-clause-room c = (let s = c.args.self.now.assignments in c.requires.wide ∙ sym (assigned_room s.treatments s.items.items s.judge s.right c.args.stage c.args.room.now c.requires.reached).long)

pub returns : goal.returns
returns c =
    let s = c.args.self.now.assignments in
    let new : c.first_counts.new.counts ≡ least (assignment_at s.items.items c.args.stage).count (sizes_in c.args.room.now) = c.first_counts.ensures ∙ ap (λ (v : Assignment). least v.count (sizes_in c.args.room.now)) c.assignment.ensures in
    rw new (first_is s.treatments s.items.items s.judge s.right c.args.stage c.args.room.now c.requires.before (assigned_room s.treatments s.items.items s.judge s.right c.args.stage c.args.room.now c.requires.reached))
