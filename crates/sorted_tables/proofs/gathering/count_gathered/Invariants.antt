use Rattle.sorted_tables.proofs.GatheredLoops.{IsCounted}
use Rattle.sorted_tables.proofs.gathering.count_gathered.Given as goal

abbrev pub invariant-loop-i : goal.invariant-loop-i
invariant-loop-i l = IsCounted l.rows l.counts l.i l.orders l.alike_orders l.equal l.alike

abbrev pub decreases-loop-i : goal.decreases-loop-i
decreases-loop-i l = l.i
