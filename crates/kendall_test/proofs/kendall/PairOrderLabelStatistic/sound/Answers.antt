use Rattle.kendall_test.proofs.KendallFitting.{kendall-sound}
use Rattle.kendall_test.proofs.kendall.PairOrderLabelStatistic.sound.Goals as goal

pub returns : goal.returns
returns c = kendall-sound c.args.self.now c.made-made.ensures.long c.made-made.ensures.few c.made-made.ensures.total_fits
