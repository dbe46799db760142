use Rattle.std.proofs.Common.{◌≡◌, take}
use Rattle.sample_reader.specs.PooledSample.{values_of}
use Rattle.sample_reader.proofs.subjects.values.Given as goal

abbrev pub invariant-loop-subject : goal.invariant-loop-subject
invariant-loop-subject l = l.values ≡ values_of (take l.subject-index l.subjects)
