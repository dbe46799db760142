use Rattle.std.proofs.Common.{◌≡◌, ◌≤◌, ◌*◌, take}
use Rattle.block_tests.specs.BlockTests.{square_sum}
use Rattle.block_tests.proofs.sums.square_sum.Given as goal

abbrev pub invariant-loop-sum : goal.invariant-loop-sum
invariant-loop-sum l = record {
  is : l.all ≡ square_sum (take l.sum-index l.sums);
  small : l.all ≤ l.sum-index * (2550000 * 2550000);
}
