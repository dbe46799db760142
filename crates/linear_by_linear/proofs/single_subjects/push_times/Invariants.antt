use Rattle.std.proofs.Common.{◌≡◌, ◌++◌, replicate}
use Rattle.linear_by_linear.proofs.single_subjects.push_times.Given as goal

abbrev pub invariant-loop-time : goal.invariant-loop-time
invariant-loop-time l = l.scores ≡ l.initial.scores ++ replicate l._time l.score
