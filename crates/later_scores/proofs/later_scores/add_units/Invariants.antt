use Rattle.std.proofs.Common.{◌-◌, ◌++◌, length, replicate}
use Rattle.later_scores.specs.LaterSteps.{IsRow, better_of}
use Rattle.later_scores.proofs.later_scores.add_units.Given as goal

abbrev pub invariant-loop-i : goal.invariant-loop-i
invariant-loop-i g l = IsRow (better_of l.fn.end) (replicate l.i l.fn.score ++ g.scores) l.row

abbrev pub ghost-add_to_row : goal.ghost-add_to_row
ghost-add_to_row g a = replicate (a.before - length g.scores) a.score ++ g.scores
