use Rattle.std.proofs.Common.{◌≡◌, ◌≤◌, ◌*◌, take}
use Rattle.std.specs.List.{sum}
use Rattle.block_tests.proofs.block_test.sum_of.Given as goal

abbrev pub invariant-loop-cell : goal.invariant-loop-cell
invariant-loop-cell l = record {
  is : l.all ≡ sum (take l.cell-index l.cells);
  small : l.all ≤ 255 * l.cell-index;
}
