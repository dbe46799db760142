use Rattle.fisher_test.proofs.SortedNarrows.{sorted_room}
use Rattle.fisher_test.proofs.sorted_weights.SortedWeightsScalarMeasure.later.Goals as goal

pub factors-requires : goal.factors-requires
factors-requires c = sorted_room c.args.self.now.measure.rows.items c.args.self.now.measure.columns.items c.args.self.now.measure.judge c.args.self.now.measure.right.weighing.level c.args.self.now.measure.right.weighing.some c.args.self.now.right.falls c.args.stage c.args.room.now c.requires
