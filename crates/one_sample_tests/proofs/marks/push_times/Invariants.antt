use Rattle.std.proofs.Common.{◌≡◌, ◌++◌, replicate}
use Rattle.one_sample_tests.proofs.marks.push_times.Given as goal

abbrev pub invariant-loop-time : goal.invariant-loop-time
invariant-loop-time l = l.values ≡ l.initial.values ++ replicate l._time l.value
