use Rattle.ordered_samples.proofs.FittingUmbrella.{umbrella-sound}
use Rattle.ordered_samples.proofs.umbrella.PeakedSamplesLabelStatistic.sound.Goals as goal

pub returns : goal.returns
returns c = umbrella-sound c.args.self.now c.made-made.result.now c.made-made.ensures
