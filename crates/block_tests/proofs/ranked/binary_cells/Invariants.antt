use Rattle.std.proofs.Common.{◌≡◌, ◌<◌, map, take}
use Rattle.std.specs.Prelude.{nat_abs}
use Rattle.std.specs.List.{All}
use Rattle.block_tests.proofs.ranked.binary_cells.Given as goal

abbrev pub invariant-loop-value : goal.invariant-loop-value
invariant-loop-value l = record {
  cells : l.cells ≡ map nat_abs (take l.value-index l.values);
  below : All (λ cell. cell < 2) l.cells;
}
