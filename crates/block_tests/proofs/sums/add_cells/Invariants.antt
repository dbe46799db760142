use Rattle.std.proofs.Common.{◌≡◌, take}
use Rattle.block_tests.specs.BlockTests.{added}
use Rattle.block_tests.proofs.sums.add_cells.Given as goal

abbrev pub invariant-loop-place : goal.invariant-loop-place
invariant-loop-place l = l.sums ≡ added l.fn.sums (take l.place l.cells)
