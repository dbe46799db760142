-- The rearrangements of the blocks so far times those of the rest are those of all.
use Rattle.std.proofs.Common.{◌≡◌, ◌*◌, ◌≤◌, drop}
use Rattle.weights.specs.declared.TheConstants.{MAX}
use Rattle.block_tests.specs.BlockSteps.{ways_of}
use Rattle.block_tests.proofs.block_test.ways_of.Given as goal

abbrev pub invariant-loop-block : goal.invariant-loop-block
invariant-loop-block l = record {
  within : l.ways ≤ MAX;
  all : l.ways * ways_of (drop l.block-index l.blocks) ≡ ways_of l.blocks;
}
