use Rattle.stratified_ranks.proofs.RankPlans.{seat}
use Rattle.stratified_ranks.proofs.rank_rooms.RankRooms.seat.Goals as goal

pub returns : goal.returns
returns c = seat c.args.self.now.columns c.args.self.now.right.fit c.args._stage c.args._room.now c.requires
