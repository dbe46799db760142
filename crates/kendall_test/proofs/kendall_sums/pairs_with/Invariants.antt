use Rattle.std.proofs.Common.{◌≡◌, ◌≤◌, take}
use Rattle.sample_reader.specs.PooledSample.{paired_subjects}
use Rattle.kendall_test.specs.KendallSteps.{pairs_with}
use Rattle.kendall_test.proofs.kendall_sums.pairs_with.Given as goal

abbrev pub invariant-loop-i : goal.invariant-loop-i
invariant-loop-i l = record {
  few : l.pairs ≤ l.i;
  here : l.pairs ≡ pairs_with l.concordant l.first l.second (take l.i (paired_subjects l.firsts l.seconds));
}
