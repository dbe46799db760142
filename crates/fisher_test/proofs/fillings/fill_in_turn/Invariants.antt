use Rattle.fisher_test.proofs.FilledColumns.{IsFilling}
use Rattle.fisher_test.proofs.fillings.fill_in_turn.Given as goal

abbrev pub invariant-loop-i : goal.invariant-loop-i
invariant-loop-i l = IsFilling l.units l.rows l.i l.left l.cells
