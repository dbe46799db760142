use Rattle.std.proofs.Common.{◌≡◌, ◌≤◌, ◌*◌, take}
use Rattle.block_tests.specs.BlockSteps.{cells_sum}
use Rattle.block_tests.proofs.squares.cells_sum.Given as goal

abbrev pub invariant-loop-block : goal.invariant-loop-block
invariant-loop-block l = record {
  is : l.all ≡ cells_sum (take l.block-index l.blocks);
  small : l.all ≤ 2040 * l.block-index;
}
