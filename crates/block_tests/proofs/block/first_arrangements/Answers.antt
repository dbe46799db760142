use Rattle.std.proofs.Common.{◌∙◌, ap}
use Rattle.block_tests.specs.BlockNetworks.{first_arrangement}
use Rattle.block_tests.proofs.Steps.{begins-at, found-at}
use Rattle.block_tests.proofs.block.first_arrangements.Goals as goal

pub loop-block-preserved : goal.loop-block-preserved
loop-block-preserved c =
    begins-at c.args.blocks.now c.loop-block.block-index c.loop-block.cells c.first.result.now _ c.loop-block-test.true c.loop-block.invariant
    (c.first.ensures.first ∙ ap first_arrangement (found-at c.args.blocks.now c.loop-block.block-index c.block-item.result c.loop-block-test.true c.block-item.is)) c.in_ok-append.ensures.ok
