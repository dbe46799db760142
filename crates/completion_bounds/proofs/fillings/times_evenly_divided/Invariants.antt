use Rattle.std.proofs.Common.{◌*◌, drop}
use Rattle.weights.specs.Labellings.{number_of_labellings}
use Rattle.completion_bounds.specs.Fillings.{evenly_divided}
use Rattle.completion_bounds.proofs.Capped.{IsTaken}
use Rattle.completion_bounds.proofs.fillings.times_evenly_divided.Given as goal

abbrev pub invariant-loop-row : goal.invariant-loop-row
invariant-loop-row l = IsTaken (l.product * number_of_labellings (evenly_divided l.units l.rows)) l.cap l.weight l.left (drop l.row (evenly_divided l.units l.rows))
