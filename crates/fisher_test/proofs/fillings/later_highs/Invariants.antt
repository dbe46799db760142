use Rattle.fisher_test.proofs.FilledColumns.{AreHighsTo}
use Rattle.fisher_test.proofs.fillings.later_highs.Given as goal

abbrev pub invariant-loop-j : goal.invariant-loop-j
invariant-loop-j l = AreHighsTo l.rows l.columns l.j l.product l.highs.items

abbrev pub decreases-loop-j : goal.decreases-loop-j
decreases-loop-j l = l.j
