use Rattle.stratified_ranks.proofs.RankPlans.{rank_number}
use Rattle.stratified_ranks.proofs.rank_measure.RankMeasureScalarMeasure.judge.Goals as goal

pub returns-clause-sound : goal.returns-clause-sound
returns-clause-sound c = let m = c.args.self.now in rank_number m.columns m.right.fit m.judge m.right.judge_fits
