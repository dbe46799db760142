use Rattle.std.proofs.Common.{◌∙◌, ap, drop}
use Rattle.row_products.proofs.Orders.{rising-drop}
use Rattle.fisher_test.proofs.sorted_weights.SortedWeights.factors.Goals as goal

pub bounds-requires-clause-rises : goal.bounds-requires-clause-rises
bounds-requires-clause-rises c = rw (c.later_columns-later.ensures ∙ ap (drop c.args.stage) c.columns.ensures) (rising-drop c.args.stage c.args.self.now.measure.columns.items c.args.self.now.right.rises)
