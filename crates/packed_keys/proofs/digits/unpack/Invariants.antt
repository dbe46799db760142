use Rattle.std.proofs.Common.{◌≡◌, ◌-◌, ◌^◌, take, drop, length, map}
use Rattle.std.specs.Prelude.{nat_abs, pos}
use Rattle.packed_keys.specs.PackedKeys.{digits}
use Rattle.packed_keys.proofs.digits.unpack.Given as goal

abbrev pub invariant-loop-i : goal.invariant-loop-i
invariant-loop-i l = record {
  long : length l.partial ≡ length l.fn.partial;
  filled : take l.i l.partial ≡ take l.i (map pos (digits (2 ^ l.bits) (length l.fn.partial) (nat_abs l.packed)));
  left : drop l.i (map pos (digits (2 ^ l.bits) (length l.fn.partial) (nat_abs l.packed))) ≡ map pos (digits (2 ^ l.bits) (length l.fn.partial - l.i) l.number);
}
