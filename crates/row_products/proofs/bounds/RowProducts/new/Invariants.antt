use Rattle.std.proofs.Common.{◌≡◌}
use Rattle.row_products.specs.Factorials.{AreFactorials, cut}
use Rattle.row_products.specs.RowProducts.{factorial}
use Rattle.row_products.proofs.bounds.RowProducts.new.Given as goal

abbrev pub invariant-loop-n : goal.invariant-loop-n
invariant-loop-n l = AreFactorials l.n l.factorials.items × (l.product ≡ cut (factorial l.n))
