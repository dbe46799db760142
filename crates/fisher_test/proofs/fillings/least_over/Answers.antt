use Rattle.std.proofs.Common.{◌∙◌}
use Rattle.completion_bounds.proofs.FallingSizes.{falling-twice}
use Rattle.fisher_test.proofs.FilledColumns.{falling-level, over-falling}
use Rattle.fisher_test.proofs.fillings.least_over.Goals as goal

pub least_product-requires-clause-rows : goal.least_product-requires-clause-rows
least_product-requires-clause-rows c = rw c.fall.ensures c.requires.rows

pub least_product-requires-clause-falls : goal.least_product-requires-clause-falls
least_product-requires-clause-falls c = rw c.fall.ensures (falling-twice c.args.sizes.now)

pub least_product-requires-clause-level : goal.least_product-requires-clause-level
least_product-requires-clause-level c = rw c.fall.ensures (falling-level c.args.sizes.now c.args.columns.now c.requires.level)

pub returns : goal.returns
returns c = c.least_product.ensures ∙ rw c.fall.ensures (over-falling c.args.sizes.now c.args.columns.now)
