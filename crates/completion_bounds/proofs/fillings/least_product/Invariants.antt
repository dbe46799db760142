use Rattle.completion_bounds.specs.Fillings.{least_weight}
use Rattle.completion_bounds.proofs.Capped.{IsMultiplied}
use Rattle.completion_bounds.proofs.fillings.least_product.Given as goal

abbrev pub invariant-loop-column : goal.invariant-loop-column
invariant-loop-column l = IsMultiplied (least_weight l.margins) l.columns l.cap l.column-index l.product
