use Rattle.std.proofs.Common.{length}
use Rattle.enumerate.specs.Walk.{members_after}
use Rattle.strata_cells.specs.Strata.{strata_labellings}
use Rattle.zelen_test.proofs.SumWalk.{IsPassing}
use Rattle.zelen_test.proofs.sum_walk.move_on.Given as goal

abbrev pub invariant-loop-labels : goal.invariant-loop-labels
invariant-loop-labels l = IsPassing l.fn.strata l.fn.sum l.fn.labels l.labels

abbrev pub decreases-loop-labels : goal.decreases-loop-labels
decreases-loop-labels l = length (members_after l.labels (strata_labellings l.fn.strata))
