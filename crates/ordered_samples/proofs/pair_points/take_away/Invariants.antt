use Rattle.std.proofs.Common.{◌≡◌, drop, take, length}
use Rattle.weights.specs.Grouped.{minus}
use Rattle.ordered_samples.proofs.pair_points.take_away.Given as goal

abbrev pub invariant-loop-i : goal.invariant-loop-i
invariant-loop-i l = record {
  long : length l.left ≡ length l.fn.left;
  filled : take l.i l.left ≡ take l.i (minus l.fn.left l.column);
  rest : drop l.i l.left ≡ drop l.i l.fn.left;
}
