use Rattle.std.proofs.Common.{arith, length}
use Rattle.rank_assignments.proofs.AssignedNarrows.{assigned}
use Rattle.rank_assignments.proofs.AssignmentSteps.{sums-of}
use Rattle.rank_assignments.proofs.assigned_sums.AssignedSumsMeasure.value.Goals as goal

pub squares-requires-clause-few : goal.squares-requires-clause-few
squares-requires-clause-few c = (let s = c.args.self.now.assignments in omega (arith, (assigned s.treatments s.items.items s.judge s.right s.reflections.items s.reflections_are (length s.items.items) c.requires.room c.args.partial.now c.requires.reached).long, s.right.narrow))

pub squares-requires-clause-sums : goal.squares-requires-clause-sums
squares-requires-clause-sums c = (let s = c.args.self.now.assignments in sums-of s.treatments s.items.items s.judge s.right (length s.items.items) c.requires.room c.args.partial.now (assigned s.treatments s.items.items s.judge s.right s.reflections.items s.reflections_are (length s.items.items) c.requires.room c.args.partial.now c.requires.reached))
