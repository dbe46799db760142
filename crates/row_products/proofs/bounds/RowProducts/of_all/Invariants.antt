use Rattle.std.proofs.Common.{◌+◌}
use Rattle.weights.specs.declared.TheConstants.{MAX}
use Rattle.completion_bounds.proofs.Capped.{IsMultiplied}
use Rattle.row_products.specs.RowProducts.{factorial}
use Rattle.row_products.proofs.bounds.RowProducts.of_all.Given as goal

abbrev pub invariant-loop-size : goal.invariant-loop-size
invariant-loop-size l = IsMultiplied factorial l.sizes (MAX + 1) l.size-index l.product
