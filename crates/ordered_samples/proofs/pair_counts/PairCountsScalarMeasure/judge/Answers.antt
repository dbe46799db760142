use Rattle.ordered_samples.proofs.PairKeys.{pairs_number}
use Rattle.ordered_samples.proofs.pair_counts.PairCountsScalarMeasure.judge.Goals as goal

pub returns-clause-sound : goal.returns-clause-sound
returns-clause-sound c = pairs_number c.args.self.now.pairs.items c.args.self.now.rows.items c.args.self.now.columns.items c.args.self.now.judge c.args.self.now.right
