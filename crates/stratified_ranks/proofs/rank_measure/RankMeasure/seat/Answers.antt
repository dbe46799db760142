use Rattle.std.proofs.Common.{refl}
use Rattle.count_rooms.proofs.NaturalMeasures.{reached-room}
use Rattle.stratified_ranks.specs.RankRooms.{rank_meaning, rank_plan}
use Rattle.stratified_ranks.proofs.RankPlans.{seat}
use Rattle.stratified_ranks.proofs.rank_measure.RankMeasure.seat.Goals as goal

pub returns : goal.returns
returns c = let m = c.args.self.now in seat m.columns m.right.fit c.args._stage c.args._room.now (reached-room (rank_plan m.columns) (rank_meaning m.columns m.judge) refl c.args._stage c.args._room.now c.requires.partial c.requires.reached)
