use Rattle.worked_networks.proofs.RankRooms.{rank_roomed}
use Rattle.worked_networks.proofs.ranks.RanksRoomed.room_width.Goals as goal

pub returns-clause-roomed : goal.returns-clause-roomed
returns-clause-roomed c = rank_roomed c.args.self.now.first c.args.self.now.second c.args.self.now.observed
