use Rattle.std.proofs.Common.{◌+◌, arith}
use Rattle.weights.specs.declared.TheConstants.{MAX}
use Rattle.completion_bounds.proofs.Capped.{multiplied-last}
use Rattle.completion_bounds.proofs.Factorials.{factorial_least}
use Rattle.row_products.specs.RowProducts.{factorial}
use Rattle.row_products.proofs.Cutting.{next-cut}
use Rattle.row_products.proofs.bounds.RowProducts.of_all.Goals as goal

pub loop-size-preserved : goal.loop-size-preserved
loop-size-preserved c = rw (c.cut_times-product.ensures, c.factorial.ensures) (next-cut factorial factorial_least c.args.sizes.now c.loop-size.size-index c.loop-size.product c.loop-size-test.true c.loop-size.invariant)

pub returns : goal.returns
returns c = multiplied-last factorial factorial_least c.args.sizes.now (MAX + 1) c.loop-size.size-index c.loop-size.product (omega (arith, c.loop-size-test.false)) c.loop-size.invariant
