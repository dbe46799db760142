use Rattle.kendall_test.proofs.KendallNarrows.{room-reached}
use Rattle.kendall_test.proofs.kendall_measure.KendallMeasureScalarMeasure.number.Goals as goal

pub read_after-requires-clause-reached : goal.read_after-requires-clause-reached
read_after-requires-clause-reached c = room-reached c.args.self.now.counts.columns.items c.args.self.now.counts.rows.items c.args.self.now.judge c.args.stage c.args.room.now c.requires.partial c.requires.move.reached
