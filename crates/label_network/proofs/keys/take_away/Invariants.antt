use Rattle.std.proofs.Common.{◌≡◌, map, take, length}
use Rattle.std.specs.Prelude.{nat_abs, pos}
use Rattle.weights.specs.Grouped.{minus}
use Rattle.label_network.proofs.keys.take_away.Given as goal

abbrev pub invariant-loop-i : goal.invariant-loop-i
invariant-loop-i l = record {
  long : length l.left ≡ length l.front;
  filled : take l.i l.left ≡ take l.i (map pos (minus (map nat_abs l.front) l.choice));
}
