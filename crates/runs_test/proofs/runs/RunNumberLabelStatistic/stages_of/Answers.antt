use Rattle.runs_test.proofs.RunsFitting.{is-running}
use Rattle.runs_test.proofs.runs.RunNumberLabelStatistic.stages_of.Goals as goal

pub new-measure-requires : goal.new-measure-requires
new-measure-requires c = rw c.counts-sizes.ensures.sizes_are (is-running c.args.self.now c.counts-sizes.result.now c.counts-sizes.ensures c.args.judge c.requires)
