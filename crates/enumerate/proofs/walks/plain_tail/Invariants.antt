-- The walk is at a member, and fewer are left.
use Rattle.std.proofs.Common.{length}
use Rattle.enumerate.specs.Walk.{members_after}
use Rattle.enumerate.proofs.Walking.{IsAt}
use Rattle.enumerate.proofs.walks.plain_tail.Given as goal

abbrev pub invariant-loop-labels : goal.invariant-loop-labels
invariant-loop-labels g l = IsAt (g.P.Plain.test l.problem) l.tail l.sum l.labels

abbrev pub decreases-loop-labels : goal.decreases-loop-labels
decreases-loop-labels g l = length (members_after l.labels (g.P.Plain.test l.problem).reference)
