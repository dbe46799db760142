use Rattle.std.proofs.Common.{◌∙◌, ap, length, sym, subst}
use Rattle.block_tests.specs.BlockTests.{TakesCells}
use Rattle.block_tests.proofs.CutSteps.{blocks-step, cells-step, rest-left}
use Rattle.block_tests.proofs.Rows.{taken-parts}
use Rattle.block_tests.proofs.ranked.rank_blocks.Goals as goal

pub rank_block-requires-clause-taken : goal.rank_block-requires-clause-taken
rank_block-requires-clause-taken c = subst (TakesCells c.args.kind) (sym c.split_at.ensures.front) (taken-parts c.args.kind c.args.treatments c.loop-block.rest.now c.loop-block.invariant.taken).0

pub loop-block-preserved : goal.loop-block-preserved
loop-block-preserved c =
    record {
      left = ap length c.split_at.ensures.back ∙ rest-left c.args.treatments c.args.blocks c.loop-block._block c.loop-block.rest.now c.loop-block-test.true c.loop-block.invariant.left;
      taken = subst (TakesCells c.args.kind) (sym c.split_at.ensures.back) (taken-parts c.args.kind c.args.treatments c.loop-block.rest.now c.loop-block.invariant.taken).1;
      blocks = blocks-step c.args.kind c.args.treatments c.args.blocks c.loop-block._block c.loop-block.rest.now c.split_at.result.0.now c.split_at.result.1.now c.loop-block-test.true c.loop-block.invariant.left c.split_at.ensures.front c.split_at.ensures.back c.loop-block.ranked.blocks.items c.rank_block.new.ranked.blocks.items _ c.in_ok-rank_block.ensures.blocks c.loop-block.invariant.blocks;
      cells = cells-step c.args.kind c.args.treatments c.args.blocks c.loop-block._block c.loop-block.rest.now c.split_at.result.0.now c.split_at.result.1.now c.loop-block-test.true c.loop-block.invariant.left c.split_at.ensures.front c.split_at.ensures.back c.loop-block.ranked.cells c.rank_block.new.ranked.cells _ c.in_ok-rank_block.ensures.cells c.loop-block.invariant.cells;
    }
