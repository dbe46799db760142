use Rattle.completion_bounds.specs.Fillings.{greatest_weight}
use Rattle.completion_bounds.proofs.Capped.{IsMultiplied}
use Rattle.completion_bounds.proofs.fillings.greatest_product.Given as goal

abbrev pub invariant-loop-column : goal.invariant-loop-column
invariant-loop-column l = IsMultiplied (greatest_weight l.rows) l.columns l.cap l.column-index l.product
