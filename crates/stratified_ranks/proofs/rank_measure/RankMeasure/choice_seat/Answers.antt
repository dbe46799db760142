use Rattle.std.proofs.Common.{refl}
use Rattle.count_rooms.proofs.NaturalMeasures.{reached-room}
use Rattle.stratified_ranks.specs.RankRooms.{rank_meaning, rank_plan}
use Rattle.stratified_ranks.proofs.RankPlans.{choice-seat}
use Rattle.stratified_ranks.proofs.rank_measure.RankMeasure.choice_seat.Goals as goal

pub returns : goal.returns
returns c =
    let m = c.args.self.now in
    let v = c.requires.move in
    choice-seat m.columns m.right.fit c.args._stage c.args._room.now c.args._choice.now (reached-room (rank_plan m.columns) (rank_meaning m.columns m.judge) refl c.args._stage c.args._room.now c.requires.partial v.reached) v.before v.allowed
