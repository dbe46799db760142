use Rattle.std.proofs.Common.{◌∙◌, ap, sym}
use Rattle.rank_assignments.specs.declared.assignment.Ahead.{Ahead}
use Rattle.rank_assignments.proofs.AssignmentRooms.{assigned_room, ways-are}
use Rattle.rank_assignments.proofs.assigned_sums.AssignmentRoomsRooms.rest.Goals as goal

pub ahead-requires : goal.ahead-requires
ahead-requires c = (let s = c.args.self.now.assignments in (assigned_room s.treatments s.items.items s.judge s.right c.args.stage c.args._room.now c.requires).within)

pub returns : goal.returns
returns c = (let s = c.args.self.now.assignments in ap (λ (z : Ahead). z.ways) c.ahead.ensures.is ∙ sym (ways-are s.treatments s.items.items s.judge s.right c.args.stage c.args._room.now c.requires))
