use Rattle.std.proofs.Common.{drop}
use Rattle.completion_bounds.specs.Fillings.{least_weight, product_by}
use Rattle.table_sums.proofs.ColumnSums.{IsMultiplied}
use Rattle.fisher_test.proofs.fillings.least_product.Given as goal

abbrev pub invariant-loop-column : goal.invariant-loop-column
invariant-loop-column l = IsMultiplied (product_by (least_weight l.rows) (drop l.column-index l.columns)) (product_by (least_weight l.rows) l.columns) l.product
