use Rattle.std.proofs.Common.{◌∙◌, ap, sym}
use Rattle.block_tests.specs.BlockNetworks.{first_arrangement}
use Rattle.block_tests.proofs.Steps.{found-at, lengths-at}
use Rattle.block_tests.proofs.block.lengths.Goals as goal

pub loop-block-preserved : goal.loop-block-preserved
loop-block-preserved c =
    lengths-at c.args.blocks.now c.loop-block.block-index c.loop-block.lengths c.first.result.now c.loop-block-test.true c.loop-block.invariant
    (c.first.ensures.first ∙ ap first_arrangement (found-at c.args.blocks.now c.loop-block.block-index c.block-item.result c.loop-block-test.true c.block-item.is))
    ∙ sym c.in_ok-push.ensures.ok
