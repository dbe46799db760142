use Rattle.zelen_test.proofs.SumWalk.{IsCounting}
use Rattle.zelen_test.proofs.sum_walk.go_back.Given as goal

abbrev pub invariant-loop-left : goal.invariant-loop-left
invariant-loop-left l = IsCounting l.fn.strata l.fn.sum l.fn.total l.left l.labels

abbrev pub decreases-loop-left : goal.decreases-loop-left
decreases-loop-left l = l.left
