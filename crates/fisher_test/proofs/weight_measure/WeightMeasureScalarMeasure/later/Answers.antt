use Rattle.fisher_test.proofs.WeightKeys.{room-of}
use Rattle.fisher_test.proofs.weight_measure.WeightMeasureScalarMeasure.later.Goals as goal

pub factors-requires : goal.factors-requires
factors-requires c = room-of c.args.self.now.rows.items c.args.self.now.columns.items c.args.self.now.binomials.width c.args.self.now.falling_binomials.width c.args.self.now.highs.items c.args.self.now.judge c.args.self.now.right c.args.stage c.args.room.now c.requires
