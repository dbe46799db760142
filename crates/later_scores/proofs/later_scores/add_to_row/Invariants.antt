use Rattle.std.proofs.Common.{◌-◌}
use Rattle.later_scores.specs.LaterSteps.{IsHalf, better_of}
use Rattle.later_scores.proofs.later_scores.add_to_row.Given as goal

abbrev pub invariant-loop-j : goal.invariant-loop-j
invariant-loop-j g l = IsHalf (better_of l.fn.end) l.fn.score g.scores l.row l.j

abbrev pub decreases-loop-j : goal.decreases-loop-j
decreases-loop-j g l = l.j - 1
