use Rattle.std.proofs.Common.{take}
use Rattle.enumerate.specs.Walk.{BeginsWith}
use Rattle.block_tests.specs.BlockTests.{rearrangements}
use Rattle.block_tests.proofs.block.first_arrangements.Given as goal

abbrev pub invariant-loop-block : goal.invariant-loop-block
invariant-loop-block l = BeginsWith (rearrangements (take l.block-index l.blocks)) l.cells
