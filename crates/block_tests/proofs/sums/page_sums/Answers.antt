use Rattle.std.proofs.Common.{◌∙◌, ap, length, arith}
use Rattle.block_tests.proofs.CutSteps.{page-end, page-step, rest-left}
use Rattle.block_tests.proofs.sums.page_sums.Goals as goal

pub loop-block-preserved : goal.loop-block-preserved
loop-block-preserved c =
    record {
      left = ap length c.split_at.ensures.back ∙ rest-left c.args.treatments c.args.blocks c.loop-block._block c.loop-block.rest.now c.loop-block-test.true c.loop-block.invariant.left;
      all = page-step c.args.treatments c.args.blocks c.loop-block._block c.loop-block.rest.now c.split_at.result.0.now c.split_at.result.1.now c.loop-block-test.true c.loop-block.invariant.left c.split_at.ensures.front c.split_at.ensures.back c.loop-block.all c.page_sum-all.result _ c.page_sum-all.ensures.is c.loop-block.invariant.all;
      small = omega (arith, c.page_sum-all.ensures.small, c.loop-block.invariant.small);
    }

pub returns-clause-is : goal.returns-clause-is
returns-clause-is c = page-end c.args.treatments c.args.blocks c.loop-block._block c.loop-block.rest.now c.loop-block.all _ c.loop-block-test.false c.loop-block.invariant.all
