use Rattle.scores.proofs.LabelledSums.{IsLabelledSum}
use Rattle.scores.proofs.labelled_sums.labelled_sum.Given as goal

abbrev pub invariant-loop-i : goal.invariant-loop-i
invariant-loop-i l = IsLabelledSum l.fn.label l.fn.scores l.fn.labels l.i l.sum
