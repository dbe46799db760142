-- The sum so far, and that of the blocks that are left, are the sum of all.
use Rattle.std.proofs.Common.{◌≡◌, ◌+◌, ◌≤◌, ◌*◌, ◌-◌, length}
use Rattle.block_tests.specs.BlockTests.{cut, page_sum, treatment_sums}
use Rattle.block_tests.proofs.sums.page_sums.Given as goal

abbrev pub invariant-loop-block : goal.invariant-loop-block
invariant-loop-block l = record {
  left : length l.rest ≡ (l.fn.blocks - l._block) * l.treatments;
  all : l.all + page_sum 1 (treatment_sums l.treatments (cut l.treatments (l.fn.blocks - l._block) l.rest))
      ≡ page_sum 1 (treatment_sums l.treatments (cut l.treatments l.fn.blocks l.cells));
  small : l.all ≤ l._block * 16320;
}
