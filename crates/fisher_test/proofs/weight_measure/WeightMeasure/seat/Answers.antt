use Rattle.fisher_test.proofs.WeightKeys.{weight_seat}
use Rattle.fisher_test.proofs.weight_measure.WeightMeasure.seat.Goals as goal

pub returns : goal.returns
returns c = weight_seat c.args.self.now.rows.items c.args.self.now.columns.items c.args.self.now.binomials.width c.args.self.now.falling_binomials.width c.args.self.now.highs.items c.args.self.now.judge c.args.self.now.right c.args._stage c.args._remaining.now c.requires.partial c.requires.place
