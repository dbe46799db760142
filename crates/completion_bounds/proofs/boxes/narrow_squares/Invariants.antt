use Rattle.completion_bounds.proofs.Bounding.{IsSquaring}
use Rattle.completion_bounds.proofs.boxes.narrow_squares.Given as goal

abbrev pub invariant-loop-i : goal.invariant-loop-i
invariant-loop-i l = IsSquaring l.low l.high l.factors l.i l.least l.greatest
