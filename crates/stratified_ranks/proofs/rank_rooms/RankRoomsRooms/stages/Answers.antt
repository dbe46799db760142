use Rattle.stratified_ranks.proofs.RankPlans.{plan_sound}
use Rattle.stratified_ranks.proofs.rank_rooms.RankRoomsRooms.stages.Goals as goal

pub returns-clause-sound : goal.returns-clause-sound
returns-clause-sound c = plan_sound c.args.self.now.columns c.args.self.now.right.fit
