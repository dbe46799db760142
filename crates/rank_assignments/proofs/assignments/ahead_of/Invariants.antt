use Rattle.rank_assignments.specs.Assignments.{AreAhead}
use Rattle.rank_assignments.proofs.assignments.ahead_of.Given as goal

abbrev pub invariant-loop-done : goal.invariant-loop-done
invariant-loop-done l = AreAhead l.treatments l.items l.done l.table.items
