use Rattle.stratified_ranks.proofs.RankPlans.{choice-seat}
use Rattle.stratified_ranks.proofs.rank_rooms.RankRooms.choice_seat.Goals as goal

pub returns : goal.returns
returns c = choice-seat c.args.self.now.columns c.args.self.now.right.fit c.args._stage c.args._room.now c.args._choice.now c.requires.reached c.requires.before c.requires.allowed
