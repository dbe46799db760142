use Rattle.fisher_test.proofs.SortedNarrows.{sorted_step}
use Rattle.fisher_test.proofs.sorted_weights.SortedWeightsScalarMeasure.number.Goals as goal

pub weight-requires : goal.weight-requires
weight-requires c = sorted_step c.args.self.now.measure.rows.items c.args.self.now.measure.columns.items c.args.self.now.measure.judge c.args.self.now.measure.right.weighing.level c.args.self.now.measure.right.weighing.some c.args.self.now.right.falls c.args.stage c.args.room.now c.args.choice.now c.requires
