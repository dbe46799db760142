use Rattle.std.proofs.Common.{◌≡◌, replicate}
use Rattle.linear_by_linear.proofs.single_subjects.single_columns.Given as goal

abbrev pub invariant-loop-subject : goal.invariant-loop-subject
invariant-loop-subject l = l.columns ≡ replicate l._subject 1
