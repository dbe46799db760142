use Rattle.weights.proofs.RangeSums.{IsAdded}
use Rattle.zelen_test.specs.ZelenSteps.{choice_from, choice_to, counted_cell}
use Rattle.zelen_test.proofs.later_sums.counted.Given as goal

abbrev pub invariant-loop-cell : goal.invariant-loop-cell
invariant-loop-cell l = IsAdded (counted_cell l.stratum l.later l.left) (choice_from l.stratum l.later l.left) (choice_to l.stratum l.later l.left) l.cell l.all
