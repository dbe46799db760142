use Rattle.labelled.proofs.LinearLaws.{labels-below, labels-long}
use Rattle.labelled.proofs.linear.LinearSumLabelStatistic.value.Goals as goal

pub linear_statistic-requires-clause-labels : goal.linear_statistic-requires-clause-labels
linear_statistic-requires-clause-labels c = rw (c.as_slice.ensures, c.scored-scored.ensures.scored) (labels-below c.args.self.now c.scored-scored.ensures.fitting c.args.labels.now c.requires)

pub linear_statistic-requires-clause-long : goal.linear_statistic-requires-clause-long
linear_statistic-requires-clause-long c = rw (c.as_slice-2.ensures, c.scored-scored.ensures.scored) (labels-long c.args.self.now c.scored-scored.ensures.fitting c.args.labels.now c.requires)
