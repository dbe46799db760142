use Rattle.sorted_tables.proofs.RaisedLoops.{IsRaising}
use Rattle.sorted_tables.proofs.gathering.raise_counts.Given as goal

abbrev pub invariant-loop-i : goal.invariant-loop-i
invariant-loop-i l = IsRaising l.fn.size l.fn.least l.fn.total l.rows l.counts l.i l.later l.before l.count l.left
