use Rattle.fisher_test.proofs.WeightKeys.{step-of}
use Rattle.fisher_test.proofs.weight_measure.WeightMeasureScalarMeasure.number.Goals as goal

pub weight-requires : goal.weight-requires
weight-requires c = step-of c.args.self.now.rows.items c.args.self.now.columns.items c.args.self.now.binomials.width c.args.self.now.falling_binomials.width c.args.self.now.highs.items c.args.self.now.judge c.args.self.now.right c.args.stage c.args.room.now c.args.choice.now c.requires
