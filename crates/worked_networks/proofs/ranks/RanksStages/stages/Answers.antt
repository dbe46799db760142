use Rattle.worked_networks.proofs.RankLaws.{rank_lawful}
use Rattle.worked_networks.proofs.ranks.RanksStages.stages.Goals as goal

pub returns-clause-lawful : goal.returns-clause-lawful
returns-clause-lawful c = rank_lawful c.args.self.now.first c.args.self.now.second c.args.self.now.observed c.args.self.now.few
