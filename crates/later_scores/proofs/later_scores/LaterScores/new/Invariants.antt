use Rattle.std.proofs.Common.{◌+◌}
use Rattle.later_scores.specs.LaterSums.{later_scores}
use Rattle.later_scores.proofs.Building.{IsBuilt}
use Rattle.later_scores.proofs.later_scores.LaterScores.new.Given as goal

abbrev pub ghost-add_stage : goal.ghost-add_stage
ghost-add_stage a = later_scores a.scores.now a.columns.now (a.stage + 1)

abbrev pub invariant-loop-stage : goal.invariant-loop-stage
invariant-loop-stage l = IsBuilt l.fn.scores l.fn.columns (l.fn.most + 1) l.stage l.low l.high l.before l.total l.least.items l.greatest.items l.totals.items l.counts.items

abbrev pub decreases-loop-stage : goal.decreases-loop-stage
decreases-loop-stage l = l.stage
