use Rattle.kendall_test.proofs.KendallNarrows.{kendall_number}
use Rattle.kendall_test.proofs.kendall_measure.KendallMeasureScalarMeasure.judge.Goals as goal

pub returns-clause-sound : goal.returns-clause-sound
returns-clause-sound c = kendall_number c.args.self.now.counts.columns.items c.args.self.now.counts.rows.items c.args.self.now.judge c.args.self.now.right
