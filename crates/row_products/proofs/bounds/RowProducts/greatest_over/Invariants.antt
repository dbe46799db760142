use Rattle.std.proofs.Common.{◌+◌}
use Rattle.weights.specs.declared.TheConstants.{MAX}
use Rattle.completion_bounds.proofs.Capped.{IsMultiplied}
use Rattle.row_products.specs.RowProducts.{greatest_product}
use Rattle.row_products.proofs.bounds.RowProducts.greatest_over.Given as goal

abbrev pub invariant-loop-row : goal.invariant-loop-row
invariant-loop-row l = IsMultiplied (greatest_product l.columns) l.rows (MAX + 1) l.row-index l.product
