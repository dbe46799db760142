use Rattle.rank_assignments.proofs.AssignedNarrows.{assigned_measure}
use Rattle.rank_assignments.proofs.assigned_sums.AssignedSumsMeasure.slots.Goals as goal

pub returns-clause-sound : goal.returns-clause-sound
returns-clause-sound c = (let s = c.args.self.now.assignments in assigned_measure s.treatments s.items.items s.judge s.right s.reflections.items s.reflections_are)
