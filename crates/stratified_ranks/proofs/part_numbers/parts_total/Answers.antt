use Rattle.std.proofs.Common.{arith}
use Rattle.stratified_ranks.proofs.PartTotals.{one-within, product-next, product-within}
use Rattle.stratified_ranks.proofs.part_numbers.parts_total.Goals as goal

pub returns-in_err-part_ways : goal.returns-in_err-part_ways
returns-in_err-part_ways c =
    rw c.from_residual.ensures (λ whole. c.in_err-part_ways.ensures (omega (arith, one-within c.args.parts.now c.loop-part.part-index c.loop-part.all c.loop-part-test.true c.loop-part.invariant, whole)))

pub returns-in_err-all : goal.returns-in_err-all
returns-in_err-all c =
    rw c.from_residual-in_err-all.ensures (λ whole. c.in_err-all.ensures (rw c.in_ok-part_ways.ensures.1 (omega (arith, product-within c.args.parts.now c.loop-part.part-index c.loop-part.all c.loop-part-test.true c.loop-part.invariant, whole))))

pub loop-part-preserved : goal.loop-part-preserved
loop-part-preserved c =
    let told = rw c.in_ok-part_ways.ensures.1 at c.in_ok-all.ensures in
    rw told.1 (product-next c.args.parts.now c.loop-part.part-index c.loop-part.all c.loop-part-test.true c.loop-part.invariant told.0)
