use Rattle.completion_bounds.proofs.Bounding.{IsBounding}
use Rattle.completion_bounds.proofs.boxes.box_bounds.Given as goal

abbrev pub invariant-loop-i : goal.invariant-loop-i
invariant-loop-i l = IsBounding l.low l.high l.factors l.cap l.i l.least l.greatest
