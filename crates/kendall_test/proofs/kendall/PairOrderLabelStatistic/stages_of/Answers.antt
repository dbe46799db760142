use Rattle.std.proofs.Common.{◌∙◌}
use Rattle.kendall_test.proofs.KendallFitting.{are-kendall_counts, is-kendall}
use Rattle.kendall_test.proofs.kendall.PairOrderLabelStatistic.stages_of.Goals as goal

pub new-requires : goal.new-requires
new-requires c =
    let made = c.made-made.ensures in
    rw (c.as_slice-columns.ensures ∙ made.columns, c.as_slice-rows.ensures ∙ made.rows) (are-kendall_counts c.args.self.now made.long made.few made.total_fits)

pub new-requires-2 : goal.new-requires-2
new-requires-2 c =
    let made = c.made-made.ensures in
    rw (c.as_slice-columns.ensures ∙ made.columns, c.as_slice-rows.ensures ∙ made.rows) (is-kendall c.args.self.now made.long made.few made.total_fits c.args.judge c.requires)
