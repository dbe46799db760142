use Rattle.labelled.proofs.LinearLaws.{is-linear}
use Rattle.labelled.proofs.linear.LinearSumLabelStatistic.stages_of.Goals as goal

pub linear_stages-requires-clause-linear : goal.linear_stages-requires-clause-linear
linear_stages-requires-clause-linear c =
    rw (c.as_slice-us.ensures, c.as_slice-rows.ensures, c.as_slice-scores.ensures, c.as_slice-columns.ensures, c.scored-scored.ensures.scored) (is-linear c.args.self.now c.scored-scored.ensures.fitting c.args.judge c.requires)

pub returns : goal.returns
returns c = rw (c.as_slice-us.ensures, c.as_slice-rows.ensures, c.as_slice-scores.ensures, c.as_slice-columns.ensures, c.scored-scored.ensures.scored, c.requires) at c.linear_stages.ensures
