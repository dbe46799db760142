use Rattle.std.proofs.Common.{◌≡◌, take, drop, length}
use Rattle.weights.specs.Grouped.{minus}
use Rattle.kendall_test.proofs.counts.take_choice.Given as goal

abbrev pub invariant-loop-i : goal.invariant-loop-i
invariant-loop-i l = record {
  long : length l.counts ≡ length l.fn.counts;
  filled : take l.i l.counts ≡ take l.i (minus l.fn.counts l.choice);
  left : drop l.i l.counts ≡ drop l.i l.fn.counts;
}
