use Rattle.labelled.proofs.LinearLaws.{linear-sound}
use Rattle.labelled.proofs.linear.LinearSumLabelStatistic.sound.Goals as goal

pub returns : goal.returns
returns c = linear-sound c.args.self.now c.scored-scored.ensures.fitting
