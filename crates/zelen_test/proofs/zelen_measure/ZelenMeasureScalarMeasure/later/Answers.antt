use Rattle.std.proofs.Common.{refl}
use Rattle.count_rooms.proofs.NaturalMeasures.{reached-room}
use Rattle.zelen_test.specs.ZelenNetwork.{zelen_meaning, zelen_plan}
use Rattle.zelen_test.proofs.zelen_measure.ZelenMeasureScalarMeasure.later.Goals as goal

pub seat-requires : goal.seat-requires
seat-requires c =
    let s = c.args.self.now.counts in
    reached-room (zelen_plan s.strata s.sum) (zelen_meaning s.strata s.sum c.args.self.now.judge) refl c.args.stage c.args.room.now c.requires.partial c.requires.reached
