use Rattle.std.proofs.Common.{◌≡◌, ◌++◌, drop}
use Rattle.later_scores.specs.LaterSums.{subjects}
use Rattle.linear_by_linear.proofs.single_subjects.subject_scores.Given as goal

abbrev pub invariant-loop-i : goal.invariant-loop-i
invariant-loop-i l = l.scores ++ subjects (drop l.i l.column_scores) (drop l.i l.columns) ≡ subjects l.column_scores l.columns
