use Rattle.std.proofs.Common.{◌≡◌, take, length}
use Rattle.weights.specs.Labellings.{counts_of}
use Rattle.ordered_samples.proofs.subjects.count_labels.Given as goal

abbrev pub invariant-loop-i : goal.invariant-loop-i
invariant-loop-i l = record {
  long : length l.counts ≡ length l.fn.counts;
  filled : take l.i l.counts ≡ take l.i (counts_of (length l.fn.counts) l.labels);
}
