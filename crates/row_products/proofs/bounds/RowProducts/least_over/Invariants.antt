use Rattle.std.proofs.Common.{◌+◌}
use Rattle.weights.specs.declared.TheConstants.{MAX}
use Rattle.completion_bounds.proofs.Capped.{IsMultiplied}
use Rattle.row_products.specs.RowProducts.{least_product}
use Rattle.row_products.proofs.bounds.RowProducts.least_over.Given as goal

abbrev pub invariant-loop-row : goal.invariant-loop-row
invariant-loop-row l = IsMultiplied (least_product l.columns) l.rows (MAX + 1) l.row-index l.product
