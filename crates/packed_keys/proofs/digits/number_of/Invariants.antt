use Rattle.std.proofs.Common.{◌≡◌, ◌^◌, ◌≤◌, drop, length, map}
use Rattle.std.specs.Prelude.{nat_abs}
use Rattle.packed_keys.specs.PackedKeys.{numeral}
use Rattle.packed_keys.proofs.digits.number_of.Given as goal

abbrev pub invariant-loop-i : goal.invariant-loop-i
invariant-loop-i l = record {
  within : l.i ≤ length l.partial;
  here : l.number ≡ numeral (2 ^ l.bits) (drop l.i (map nat_abs l.partial));
}

abbrev pub decreases-loop-i : goal.decreases-loop-i
decreases-loop-i l = l.i
