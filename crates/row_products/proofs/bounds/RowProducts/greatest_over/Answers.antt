use Rattle.std.proofs.Common.{◌+◌, arith}
use Rattle.weights.specs.declared.TheConstants.{MAX}
use Rattle.completion_bounds.proofs.Capped.{multiplied-last}
use Rattle.row_products.specs.RowProducts.{greatest_product}
use Rattle.row_products.proofs.ByRows.{greatest_some}
use Rattle.row_products.proofs.Cutting.{next-cut}
use Rattle.row_products.proofs.bounds.RowProducts.greatest_over.Goals as goal

pub loop-row-preserved : goal.loop-row-preserved
loop-row-preserved c = rw (c.cut_times-product.ensures, c.greatest_product.ensures) (next-cut (greatest_product c.args.columns.now) (greatest_some c.args.columns.now) c.args.rows.now c.loop-row.row-index c.loop-row.product c.loop-row-test.true c.loop-row.invariant)

pub returns : goal.returns
returns c = multiplied-last (greatest_product c.args.columns.now) (greatest_some c.args.columns.now) c.args.rows.now (MAX + 1) c.loop-row.row-index c.loop-row.product (omega (arith, c.loop-row-test.false)) c.loop-row.invariant
