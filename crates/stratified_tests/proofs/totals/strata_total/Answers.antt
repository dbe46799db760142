use Rattle.std.proofs.Common.{arith}
use Rattle.stratified_tests.proofs.Loops.{one-within, product-next, product-within}
use Rattle.stratified_tests.proofs.totals.strata_total.Goals as goal

pub returns-in_err-stratum_total : goal.returns-in_err-stratum_total
returns-in_err-stratum_total c =
    rw c.from_residual.ensures (λ whole. c.in_err-stratum_total.ensures (omega (arith, one-within c.args.odds c.args.strata.now c.requires.odds c.loop-stratum.stratum-index c.loop-stratum.all c.loop-stratum-test.true c.loop-stratum.invariant, whole)))

pub returns-in_err-all : goal.returns-in_err-all
returns-in_err-all c =
    rw c.from_residual-in_err-all.ensures (λ whole. c.in_err-all.ensures (rw c.in_ok-stratum_total.ensures.1 (omega (arith, product-within c.args.odds c.args.strata.now c.requires.odds c.loop-stratum.stratum-index c.loop-stratum.all c.loop-stratum-test.true c.loop-stratum.invariant, whole))))

pub loop-stratum-preserved : goal.loop-stratum-preserved
loop-stratum-preserved c =
    let told = rw c.in_ok-stratum_total.ensures.1 at c.in_ok-all.ensures in
    rw told.1 (product-next c.args.odds c.args.strata.now c.requires.odds c.loop-stratum.stratum-index c.loop-stratum.all c.loop-stratum-test.true c.loop-stratum.invariant told.0)
