use Rattle.runs_test.proofs.RunsFitting.{runs-sound}
use Rattle.runs_test.proofs.runs.RunNumberLabelStatistic.sound.Goals as goal

pub returns : goal.returns
returns c = runs-sound c.args.self.now c.counts-sizes.result.now c.counts-sizes.ensures
