use Rattle.std.proofs.Common.{◌≡◌, take}
use Rattle.one_sample_tests.specs.SignedSamples.{magnitudes}
use Rattle.one_sample_tests.proofs.marks.magnitudes.Given as goal

abbrev pub invariant-loop-difference : goal.invariant-loop-difference
invariant-loop-difference l = l.sizes ≡ magnitudes (take l.difference-index l.differences)
