use Rattle.std.proofs.Common.{◌≡◌, map, take, length}
use Rattle.std.specs.Prelude.{nat_abs}
use Rattle.label_network.proofs.keys.read_sizes.Given as goal

abbrev pub invariant-loop-i : goal.invariant-loop-i
invariant-loop-i l = record {
  long : length l.sizes ≡ length l.front;
  filled : take l.i l.sizes ≡ take l.i (map nat_abs l.front);
}
