use Rattle.std.proofs.Common.{◌+◌}
use Rattle.weights.specs.declared.TheConstants.{MAX}
use Rattle.completion_bounds.specs.Fillings.{evenly_divided}
use Rattle.completion_bounds.proofs.Capped.{IsMultiplied}
use Rattle.row_products.specs.RowProducts.{factorial}
use Rattle.row_products.proofs.bounds.RowProducts.least_product.Given as goal

abbrev pub invariant-loop-column : goal.invariant-loop-column
invariant-loop-column l = IsMultiplied factorial (evenly_divided l.row l.columns) (MAX + 1) l.column l.product
