use Rattle.std.proofs.Common.{◌≡◌, map, take, length}
use Rattle.std.specs.Prelude.{pos}
use Rattle.label_network.proofs.keys.write_sizes.Given as goal

abbrev pub invariant-loop-i : goal.invariant-loop-i
invariant-loop-i l = record {
  long : length l.front ≡ length l.sizes;
  filled : take l.i l.front ≡ take l.i (map pos l.sizes);
}
