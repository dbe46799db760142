use Rattle.std.proofs.Common.{arith}
use Rattle.zelen_test.specs.ZelenMade.{own_cells}
use Rattle.zelen_test.proofs.Rarities.{next-own, weigh-first}
use Rattle.zelen_test.proofs.ZelenTests.{own-cells_are}
use Rattle.zelen_test.proofs.cell_weights.own_weight.Goals as goal

pub loop-stratum-init : goal.loop-stratum-init
loop-stratum-init c = weigh-first c.args.strata.now (own_cells c.args.strata.now) (own-cells_are c.args.strata.now)

pub weight_of-product-requires-clause-fits : goal.weight_of-product-requires-clause-fits
weight_of-product-requires-clause-fits c = omega (arith, (next-own c.loop-stratum-test.true c.loop-stratum.invariant).weight, c.requires.fits)

pub overflow_mul-product : goal.overflow_mul-product
overflow_mul-product c = rw c.weight_of-product.ensures (omega (arith, (next-own c.loop-stratum-test.true c.loop-stratum.invariant).within, c.requires.fits))

pub loop-stratum-preserved : goal.loop-stratum-preserved
loop-stratum-preserved c = rw c.weight_of-product.ensures (next-own c.loop-stratum-test.true c.loop-stratum.invariant).next
