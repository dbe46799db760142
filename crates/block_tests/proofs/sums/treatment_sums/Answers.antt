use Rattle.std.proofs.Common.{◌≡◌, ◌-◌, ◌*◌, ◌∙◌, ℕ, ap, sym, length, arith, rules, replicate}
use Rattle.std.proofs.lemmas.List.{length-replicate}
use Rattle.block_tests.specs.BlockTests.{added, cut, treatment_sums}
use Rattle.block_tests.proofs.CutSteps.{bytes-small, front-within, part-small, rest-left, sums-end, sums-step}
use Rattle.block_tests.proofs.TreatmentSums.{length-sums, zeros-added}
use Rattle.block_tests.proofs.sums.treatment_sums.Goals as goal

pub loop-block-init : goal.loop-block-init
loop-block-init c =
    let k : ℕ = length c.args.sums.now in
    let zeros : c.fill.new.self ≡ replicate k 0 = search rules in
    let all : c.args.blocks - 0 ≡ c.args.blocks = omega arith in
    record {
      long = ap length zeros ∙ length-replicate k 0;
      left = c.requires.whole ∙ ap (λ n. n * k) (sym all);
      all = ap (λ xs. added xs (treatment_sums k (cut k (c.args.blocks - 0) c.args.cells.now))) zeros ∙ ap (λ n. added (replicate k 0) (treatment_sums k (cut k n c.args.cells.now))) all ∙ zeros-added k (treatment_sums k (cut k c.args.blocks c.args.cells.now)) (length-sums k c.args.blocks c.args.cells.now);
    }

pub add_cells-requires-clause-small : goal.add_cells-requires-clause-small
add_cells-requires-clause-small c =
    part-small (length c.args.sums.now) c.args.blocks c.args.cells.now c.loop-block.sums _ c.requires.few (bytes-small c.args.cells.now (λ i. omega (arith, c.type_inv.cells i))) c.loop-block.invariant.all

pub loop-block-preserved : goal.loop-block-preserved
loop-block-preserved c =
    let k : ℕ = length c.args.sums.now in
    let front = c.split_at.ensures.front in
    let back = c.split_at.ensures.back in
    let within = front-within k c.args.blocks c.loop-block._block c.loop-block.rest.now c.loop-block-test.true c.loop-block.invariant.left in
    record {
      long = omega (arith, c.add_cells.auto.sums, c.loop-block.invariant.long);
      left = ap length back ∙ rest-left k c.args.blocks c.loop-block._block c.loop-block.rest.now c.loop-block-test.true c.loop-block.invariant.left;
      all = sums-step k c.args.blocks c.loop-block._block c.loop-block.rest.now c.split_at.result.0.now c.split_at.result.1.now c.loop-block-test.true c.loop-block.invariant.left front back c.loop-block.sums c.add_cells.new.sums _ c.add_cells.ensures c.loop-block.invariant.all;
    }

pub returns-clause-sums : goal.returns-clause-sums
returns-clause-sums c = sums-end (length c.args.sums.now) c.args.blocks c.loop-block._block c.loop-block.rest.now c.loop-block.sums _ c.loop-block-test.false c.loop-block.invariant.long c.loop-block.invariant.all

pub returns-clause-small : goal.returns-clause-small
returns-clause-small c =
    part-small (length c.args.sums.now) c.args.blocks c.args.cells.now c.loop-block.sums _ c.requires.few (bytes-small c.args.cells.now (λ i. omega (arith, c.type_inv.cells i))) c.loop-block.invariant.all
