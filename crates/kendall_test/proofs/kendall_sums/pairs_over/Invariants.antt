use Rattle.std.proofs.Common.{◌≡◌, ◌*◌, ◌≤◌, take}
use Rattle.sample_reader.specs.PooledSample.{paired_subjects}
use Rattle.kendall_test.specs.Kendall.{over_pairs}
use Rattle.kendall_test.specs.KendallSteps.{ordered}
use Rattle.kendall_test.proofs.kendall_sums.pairs_over.Given as goal

abbrev pub invariant-loop-i : goal.invariant-loop-i
invariant-loop-i l = record {
  few : l.pairs ≤ 120 * l.i;
  here : l.pairs ≡ over_pairs (ordered l.concordant) (take l.i (paired_subjects l.firsts l.seconds)) (paired_subjects l.firsts l.seconds);
}
