use Rattle.std.proofs.Common.{◌≡◌, ◌≤◌, ◌∙◌, ℕ, List, [], ap, arith, length}
use Rattle.std.specs.List.{sum}
use Rattle.std.proofs.lemmas.List.Sums.{sum_by_more}
use Rattle.block_tests.specs.BlockNetworks.{block_at, first_arrangement}
use Rattle.block_tests.proofs.Arranged.{length-first}
use Rattle.block_tests.proofs.Steps.{found-at}
use Rattle.block_tests.proofs.squares.cells_sum.Goals as goal

few-cells : (counts first : List ℕ) → first ≡ first_arrangement counts → sum counts ≤ 8 → length first ≤ 8
few-cells counts first e h = omega (arith, ap length e, length-first counts, h)

pub sum_of-all-requires : goal.sum_of-all-requires
sum_of-all-requires c = omega (arith, few-cells c.block-item.result c.first.result.now c.first.ensures.first c.first.ensures.few)

pub overflow_add-all : goal.overflow_add-all
overflow_add-all c = omega (arith, c.loop-block.invariant.small, c.sum_of-all.ensures.small, few-cells c.block-item.result c.first.result.now c.first.ensures.first c.first.ensures.few, c.loop-block-test.true, c.requires)

pub loop-block-preserved : goal.loop-block-preserved
loop-block-preserved c =
    let blocks = c.args.blocks.now in
    let i = c.loop-block.block-index in
    let here : c.block-item.result ≡ block_at blocks i = found-at blocks i c.block-item.result c.loop-block-test.true c.block-item.is in
    let own : c.sum_of-all.result ≡ sum (first_arrangement (block_at blocks i)) = c.sum_of-all.ensures.is ∙ ap sum (c.first.ensures.first ∙ ap first_arrangement here) in
    record {
      is = omega (arith, c.loop-block.invariant.is, own, sum_by_more (λ counts. sum (first_arrangement counts)) blocks i [] c.loop-block-test.true);
      small = omega (arith, c.loop-block.invariant.small, c.sum_of-all.ensures.small, few-cells c.block-item.result c.first.result.now c.first.ensures.first c.first.ensures.few);
    }
