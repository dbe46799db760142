use Rattle.std.proofs.Common.{drop}
use Rattle.std.specs.Prelude.{reverse}
use Rattle.completion_bounds.specs.Fillings.{filled_in_turn, product_by}
use Rattle.row_products.specs.RowProducts.{factorial}
use Rattle.row_products.proofs.Cutting.{IsFilling}
use Rattle.row_products.proofs.bounds.RowProducts.greatest_product.Given as goal

abbrev pub invariant-loop-i : goal.invariant-loop-i
invariant-loop-i l = IsFilling (product_by factorial (filled_in_turn l.row (reverse l.columns))) l.product l.left (drop l.i (reverse l.columns))
