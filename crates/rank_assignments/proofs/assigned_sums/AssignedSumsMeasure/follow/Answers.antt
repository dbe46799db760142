use Rattle.std.proofs.Common.{◌∙◌, arith, sym}
use Rattle.label_network.specs.Meanings.{sizes_in}
use Rattle.label_network.proofs.Narrowing.{chosen}
use Rattle.label_network.proofs.Rows.{length-abs}
use Rattle.rank_assignments.specs.Assignments.{assignment_at}
use Rattle.rank_assignments.proofs.AssignedNarrows.{assigned}
use Rattle.rank_assignments.proofs.AssignmentSteps.{ones-of, sums-of}
use Rattle.rank_assignments.proofs.assigned_sums.AssignedSumsMeasure.follow.Goals as goal

pub write_gained-requires-clause-sums : goal.write_gained-requires-clause-sums
write_gained-requires-clause-sums c = (let s = c.args.self.now.assignments in sums-of s.treatments s.items.items s.judge s.right c.args.stage c.args._room.now c.args.partial.now (assigned s.treatments s.items.items s.judge s.right s.reflections.items s.reflections_are c.args.stage c.args._room.now c.args.partial.now c.requires.allowed.reached))

pub write_gained-requires-clause-counts : goal.write_gained-requires-clause-counts
write_gained-requires-clause-counts c =
    let s = c.args.self.now.assignments in
    let count = (assignment_at s.items.items c.args.stage).count in
    ones-of count (sizes_in c.args._room.now) c.args.choice.now (assigned s.treatments s.items.items s.judge s.right s.reflections.items s.reflections_are c.args.stage c.args._room.now c.args.partial.now c.requires.allowed.reached).placed.ones (chosen count (sizes_in c.args._room.now) c.args.choice.now c.requires.allowed.allowed)

pub write_gained-requires-clause-as_many : goal.write_gained-requires-clause-as_many
write_gained-requires-clause-as_many c =
    let s = c.args.self.now.assignments in
    let count = (assignment_at s.items.items c.args.stage).count in
    let here = assigned s.treatments s.items.items s.judge s.right s.reflections.items s.reflections_are c.args.stage c.args._room.now c.args.partial.now c.requires.allowed.reached in
    (chosen count (sizes_in c.args._room.now) c.args.choice.now c.requires.allowed.allowed).long ∙ length-abs c.args._room.now ∙ here.placed.long ∙ sym here.long

pub write_gained-requires-clause-room : goal.write_gained-requires-clause-room
write_gained-requires-clause-room c = (let s = c.args.self.now.assignments in c.requires.room ∙ sym (assigned s.treatments s.items.items s.judge s.right s.reflections.items s.reflections_are c.args.stage c.args._room.now c.args.partial.now c.requires.allowed.reached).long)

pub write_reflected-requires-clause-sums : goal.write_reflected-requires-clause-sums
write_reflected-requires-clause-sums c = (let s = c.args.self.now.assignments in sums-of s.treatments s.items.items s.judge s.right c.args.stage c.args._room.now c.args.partial.now (assigned s.treatments s.items.items s.judge s.right s.reflections.items s.reflections_are c.args.stage c.args._room.now c.args.partial.now c.requires.allowed.reached))

pub write_reflected-requires-clause-counts : goal.write_reflected-requires-clause-counts
write_reflected-requires-clause-counts c =
    let s = c.args.self.now.assignments in
    let count = (assignment_at s.items.items c.args.stage).count in
    ones-of count (sizes_in c.args._room.now) c.args.choice.now (assigned s.treatments s.items.items s.judge s.right s.reflections.items s.reflections_are c.args.stage c.args._room.now c.args.partial.now c.requires.allowed.reached).placed.ones (chosen count (sizes_in c.args._room.now) c.args.choice.now c.requires.allowed.allowed)

pub write_reflected-requires-clause-as_many : goal.write_reflected-requires-clause-as_many
write_reflected-requires-clause-as_many c =
    let s = c.args.self.now.assignments in
    let count = (assignment_at s.items.items c.args.stage).count in
    let here = assigned s.treatments s.items.items s.judge s.right s.reflections.items s.reflections_are c.args.stage c.args._room.now c.args.partial.now c.requires.allowed.reached in
    (chosen count (sizes_in c.args._room.now) c.args.choice.now c.requires.allowed.allowed).long ∙ length-abs c.args._room.now ∙ here.placed.long ∙ sym here.long

pub write_reflected-requires-clause-room : goal.write_reflected-requires-clause-room
write_reflected-requires-clause-room c = (let s = c.args.self.now.assignments in c.requires.room ∙ sym (assigned s.treatments s.items.items s.judge s.right s.reflections.items s.reflections_are c.args.stage c.args._room.now c.args.partial.now c.requires.allowed.reached).long)

pub write_reflected-requires-clause-few : goal.write_reflected-requires-clause-few
write_reflected-requires-clause-few c = (let s = c.args.self.now.assignments in omega (arith, (assigned s.treatments s.items.items s.judge s.right s.reflections.items s.reflections_are c.args.stage c.args._room.now c.args.partial.now c.requires.allowed.reached).long, s.right.narrow))
