use Rattle.std.proofs.Common.{◌≡◌, ℕ, ◌<◌}
use Rattle.std.specs.Prelude.{slice_index}
use Rattle.block_tests.specs.EvenBlocks.{pair_sums}
use Rattle.block_tests.proofs.block.is_even.Given as goal

abbrev pub invariant-loop-i : goal.invariant-loop-i
invariant-loop-i l = (j : ℕ) → j < l.i → slice_index (pair_sums l.numbers) j ≡ slice_index (pair_sums l.numbers) 0
