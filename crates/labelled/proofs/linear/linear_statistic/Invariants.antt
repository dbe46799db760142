use Rattle.labelled.proofs.LinearSteps.{IsSummed}
use Rattle.labelled.proofs.linear.linear_statistic.Given as goal

abbrev pub invariant-loop-i : goal.invariant-loop-i
invariant-loop-i l = IsSummed l.fn.label_scores l.fn.scores l.fn.labels l.i l.sum
