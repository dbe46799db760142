use Rattle.std.proofs.Common.{◌≡◌, ◌≤◌, ◌*◌}
use Rattle.two_sample_tests.specs.EvenSteps.{pairs_of}
use Rattle.two_sample_tests.proofs.even_scores.pairs_of.Given as goal

abbrev pub invariant-loop-i : goal.invariant-loop-i
invariant-loop-i l = (l.pairs ≡ pairs_of l.i) × (l.pairs ≤ 10000 * l.i)
