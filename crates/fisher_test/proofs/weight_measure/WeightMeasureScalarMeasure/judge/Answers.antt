use Rattle.fisher_test.proofs.WeightKeys.{weight_number}
use Rattle.fisher_test.proofs.weight_measure.WeightMeasureScalarMeasure.judge.Goals as goal

pub returns-clause-sound : goal.returns-clause-sound
returns-clause-sound c = weight_number c.args.self.now.rows.items c.args.self.now.columns.items c.args.self.now.binomials.width c.args.self.now.falling_binomials.width c.args.self.now.highs.items c.args.self.now.judge c.args.self.now.right
