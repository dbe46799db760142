use Rattle.std.proofs.Common.{◌∙◌, sym}
use Rattle.label_network.specs.Meanings.{sizes_in}
use Rattle.label_network.proofs.Narrowing.{chosen}
use Rattle.label_network.proofs.Rows.{length-abs}
use Rattle.rank_assignments.specs.Assignments.{assignment_at}
use Rattle.rank_assignments.proofs.AssignedNarrows.{assigned}
use Rattle.rank_assignments.proofs.AssignmentSteps.{ones-of}
use Rattle.rank_assignments.proofs.assigned_sums.AssignedSumsMeasure.step.Goals as goal

pub assignment-requires : goal.assignment-requires
assignment-requires c = c.requires.way.move.before

pub write_raises-requires-clause-counts : goal.write_raises-requires-clause-counts
write_raises-requires-clause-counts c =
    let s = c.args.self.now.assignments in
    let move = c.requires.way.move in
    let count = (assignment_at s.items.items c.args.stage).count in
    ones-of count (sizes_in c.args._room.now) c.args.choice.now (assigned s.treatments s.items.items s.judge s.right s.reflections.items s.reflections_are c.args.stage c.args._room.now c.requires.way.partial move.reached).placed.ones (chosen count (sizes_in c.args._room.now) c.args.choice.now move.allowed)

pub write_raises-requires-clause-room : goal.write_raises-requires-clause-room
write_raises-requires-clause-room c =
    let s = c.args.self.now.assignments in
    let move = c.requires.way.move in
    let count = (assignment_at s.items.items c.args.stage).count in
    c.requires.room ∙ sym ((chosen count (sizes_in c.args._room.now) c.args.choice.now move.allowed).long ∙ length-abs c.args._room.now ∙ (assigned s.treatments s.items.items s.judge s.right s.reflections.items s.reflections_are c.args.stage c.args._room.now c.requires.way.partial move.reached).placed.long)
