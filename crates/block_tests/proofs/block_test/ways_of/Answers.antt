use Rattle.std.proofs.Common.{◌≡◌, ◌*◌, ◌∙◌, ap, arith, drop_of_length-le}
use Rattle.block_tests.specs.BlockSteps.{ways_of}
use Rattle.weights.specs.Labellings.{number_of_labellings}
use Rattle.block_tests.proofs.Steps.{found-at, ways-more, ways-within}
use Rattle.block_tests.proofs.block_test.ways_of.Goals as goal

pub returns-in_err-ways : goal.returns-in_err-ways
returns-in_err-ways c =
    let own = c.number.ensures ∙ ap number_of_labellings (found-at c.args.blocks.now c.loop-block.block-index c.block-item.result c.loop-block-test.true c.block-item.is) in
    rw c.from_residual.ensures (λ fits. c.in_err-ways.ensures (ways-within c.args.blocks.now c.loop-block.block-index c.loop-block.ways c.number.result c.loop-block-test.true c.loop-block.invariant.all own fits))

pub loop-block-preserved : goal.loop-block-preserved
loop-block-preserved c =
    let own = c.number.ensures ∙ ap number_of_labellings (found-at c.args.blocks.now c.loop-block.block-index c.block-item.result c.loop-block-test.true c.block-item.is) in
    record {
      within = rw c.in_ok-ways.ensures.1 c.in_ok-ways.ensures.0;
      all = rw c.in_ok-ways.ensures.1 (ways-more c.args.blocks.now c.loop-block.block-index c.loop-block.ways c.number.result c.loop-block-test.true c.loop-block.invariant.all own);
    }

pub returns : goal.returns
returns c =
    let none = drop_of_length-le c.args.blocks.now c.loop-block-test.false in
    let all : c.loop-block.ways * 1 ≡ ways_of c.args.blocks.now = rw none at c.loop-block.invariant.all in
    let same : c.loop-block.ways ≡ ways_of c.args.blocks.now = omega arith in
    (rw (← same) c.loop-block.invariant.within, same)
