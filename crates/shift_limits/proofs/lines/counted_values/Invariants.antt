use Rattle.std.proofs.Common.{◌≡◌, map, pos}
use Rattle.std.specs.List.{range_with_len}
use Rattle.sample_reader.specs.Kept.{AreInRange}
use Rattle.shift_limits.proofs.lines.counted_values.Given as goal

abbrev pub invariant-loop-i : goal.invariant-loop-i
invariant-loop-i l = record {
  values : l.values ≡ map pos (range_with_len 0 l.i);
  in_range : AreInRange l.values;
}
