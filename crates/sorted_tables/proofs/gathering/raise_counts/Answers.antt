use Rattle.sorted_tables.proofs.RaisedLoops.{raise-step}
use Rattle.sorted_tables.proofs.gathering.raise_counts.Goals as goal

pub overflow_sub-left : goal.overflow_sub-left
overflow_sub-left c = (raise-step c.loop-i.invariant c.loop-i-test.true c.floor_of-floor.ensures c.saturating_sub.ensures c.max-count.ensures).0

pub loop-i-preserved : goal.loop-i-preserved
loop-i-preserved c = (raise-step c.loop-i.invariant c.loop-i-test.true c.floor_of-floor.ensures c.saturating_sub.ensures c.max-count.ensures).1
