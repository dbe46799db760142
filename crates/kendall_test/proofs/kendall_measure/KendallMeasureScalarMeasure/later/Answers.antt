use Rattle.kendall_test.proofs.KendallNarrows.{room-reached}
use Rattle.kendall_test.proofs.kendall_measure.KendallMeasureScalarMeasure.later.Goals as goal

pub seat-requires : goal.seat-requires
seat-requires c = room-reached c.args.self.now.counts.columns.items c.args.self.now.counts.rows.items c.args.self.now.judge c.args.stage c.args.room.now c.requires.partial c.requires.reached
