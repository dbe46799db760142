use Rattle.std.proofs.Common.{◌≡◌, length, take}
use Rattle.weights.specs.Labellings.{counts_of}
use Rattle.table_sums.proofs.sums.count_labels.Given as goal

abbrev pub invariant-loop-i : goal.invariant-loop-i
invariant-loop-i l = record {
  long : length l.counts ≡ length l.initial.counts;
  filled : take l.i l.counts ≡ take l.i (counts_of (length l.initial.counts) l.labels);
}
