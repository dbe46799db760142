use Rattle.std.proofs.Common.{◌≤◌}
use Rattle.kendall_test.proofs.PairLoops.{IsPairing}
use Rattle.kendall_test.proofs.pairs.concordant_from.Given as goal

abbrev pub invariant-loop-i : goal.invariant-loop-i
invariant-loop-i l = record {
  above : l.place ≤ l.i;
  pairing : IsPairing l.here l.later l.i l.pairs l.greater;
}

abbrev pub decreases-loop-i : goal.decreases-loop-i
decreases-loop-i l = l.i
