use Rattle.std.proofs.Common.{◌≡◌, take}
use Rattle.sample_reader.specs.PooledSample.{paired_subjects}
use Rattle.sample_reader.proofs.subjects.subjects_in_order.Given as goal

abbrev pub invariant-loop-i : goal.invariant-loop-i
invariant-loop-i l = l.subjects.items ≡ paired_subjects (take l.i l.values) (take l.i l.labels)
