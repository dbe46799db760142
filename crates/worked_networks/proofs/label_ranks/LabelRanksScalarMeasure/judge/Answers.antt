use Rattle.worked_networks.proofs.LabelRankLaws.{rank-number}
use Rattle.worked_networks.proofs.label_ranks.LabelRanksScalarMeasure.judge.Goals as goal

pub returns-clause-sound : goal.returns-clause-sound
returns-clause-sound c = rank-number c.args.self.now.judge c.args.self.now.ruled
