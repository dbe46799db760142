use Rattle.std.proofs.Common.{◌≡◌, replicate}
use Rattle.one_sample_tests.proofs.marks.first_marks.Given as goal

abbrev pub invariant-loop-mark : goal.invariant-loop-mark
invariant-loop-mark l = l.marks ≡ replicate l._mark 0
