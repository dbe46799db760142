use Rattle.std.proofs.Common.{◌*◌, drop}
use Rattle.weights.specs.Labellings.{number_of_labellings}
use Rattle.completion_bounds.specs.Fillings.{filled_in_turn}
use Rattle.completion_bounds.proofs.Capped.{IsTaken}
use Rattle.completion_bounds.proofs.fillings.times_filled_in_turn.Given as goal

abbrev pub invariant-loop-row : goal.invariant-loop-row
invariant-loop-row l = IsTaken (l.product * number_of_labellings (filled_in_turn l.units l.rows)) l.cap l.weight l.left (filled_in_turn l.left (drop l.row-index l.rows))
