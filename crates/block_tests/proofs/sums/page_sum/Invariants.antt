-- The sum so far, and that of the cells that are left, are the sum of all.
use Rattle.std.proofs.Common.{◌≡◌, ◌+◌, ◌≤◌, ◌*◌, drop}
use Rattle.block_tests.specs.BlockTests.{page_sum}
use Rattle.block_tests.proofs.sums.page_sum.Given as goal

abbrev pub invariant-loop-place : goal.invariant-loop-place
invariant-loop-place l = record {
  all : l.all + page_sum (l.place + 1) (drop l.place l.cells) ≡ page_sum 1 l.cells;
  small : l.all ≤ l.place * 2040;
}
