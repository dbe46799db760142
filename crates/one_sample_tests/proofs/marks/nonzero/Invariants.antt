use Rattle.std.proofs.Common.{◌≡◌, take}
use Rattle.one_sample_tests.specs.SignedSamples.{nonzero}
use Rattle.one_sample_tests.proofs.marks.nonzero.Given as goal

abbrev pub invariant-loop-difference : goal.invariant-loop-difference
invariant-loop-difference l = l.used ≡ nonzero (take l.difference-index l.differences)
