use Rattle.std.proofs.Common.{◌∙◌}
use Rattle.table_sums.proofs.MarginSums.{some-labels}
use Rattle.linear_by_linear.proofs.LinearTests.{is-linear}
use Rattle.linear_by_linear.proofs.linear_ways.ProductSumLabelStatistic.stages_of.Goals as goal

pub linear_stages-requires-clause-linear : goal.linear_stages-requires-clause-linear
linear_stages-requires-clause-linear c =
    let made = c.made-made.ensures in
    rw (c.as_slice.ensures ∙ made.row_scores, c.as_slice-2.ensures ∙ made.margins.rows, c.as_slice-3.ensures ∙ made.column_scores, c.as_slice-4.ensures ∙ made.margins.columns) (is-linear c.args.self.now made.fitting c.args.judge c.requires)

pub linear_stages-requires-clause-some : goal.linear_stages-requires-clause-some
linear_stages-requires-clause-some c =
    let made = c.made-made.ensures in
    rw (c.as_slice-2.ensures ∙ made.margins.rows) (some-labels c.args.self.now.table made.fitting.table)

pub linear_stages-requires-clause-total : goal.linear_stages-requires-clause-total
linear_stages-requires-clause-total c =
    let made = c.made-made.ensures in
    rw (c.as_slice-2.ensures ∙ made.margins.rows) made.fitting.table.total_fits

pub returns : goal.returns
returns c =
    let made = c.made-made.ensures in
    rw (c.as_slice.ensures ∙ made.row_scores, c.as_slice-2.ensures ∙ made.margins.rows, c.as_slice-3.ensures ∙ made.column_scores, c.as_slice-4.ensures ∙ made.margins.columns, c.requires) at c.linear_stages.ensures
