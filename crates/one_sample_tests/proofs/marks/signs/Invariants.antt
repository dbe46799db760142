use Rattle.std.proofs.Common.{◌≡◌, take}
use Rattle.one_sample_tests.specs.SignedSamples.{signs_of}
use Rattle.one_sample_tests.proofs.marks.signs.Given as goal

abbrev pub invariant-loop-difference : goal.invariant-loop-difference
invariant-loop-difference l = l.marks ≡ signs_of (take l.difference-index l.differences)
