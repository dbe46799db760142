use Rattle.std.proofs.Common.{◌∙◌}
use Rattle.table_sums.proofs.MarginSums.{some-labels}
use Rattle.linear_by_linear.proofs.LinearTests.{as-long}
use Rattle.linear_by_linear.proofs.SingleSubjects.{linear-singles}
use Rattle.linear_by_linear.proofs.linear_ways.by_subjects.Goals as goal

pub subject_scores-requires : goal.subject_scores-requires
subject_scores-requires c =
    let made = c.made-made.ensures in
    rw (c.as_slice-columns.ensures ∙ made.margins.columns, c.as_slice.ensures ∙ made.column_scores) (as-long c.args.sum.now made.fitting)

pub linear_stages-requires-clause-linear : goal.linear_stages-requires-clause-linear
linear_stages-requires-clause-linear c =
    let made = c.made-made.ensures in
    rw (c.as_slice-2.ensures ∙ made.row_scores, c.as_slice-3.ensures ∙ made.margins.rows, c.as_slice-5.ensures ∙ c.in_ok-singles.ensures, c.as_slice-4.ensures, c.len.ensures, c.in_ok-scores.ensures, c.as_slice-columns.ensures ∙ made.margins.columns, c.as_slice.ensures ∙ made.column_scores) (linear-singles c.args.sum.now made.fitting c.args.judge c.requires)

pub linear_stages-requires-clause-some : goal.linear_stages-requires-clause-some
linear_stages-requires-clause-some c =
    let made = c.made-made.ensures in
    rw (c.as_slice-3.ensures ∙ made.margins.rows) (some-labels c.args.sum.now.table made.fitting.table)

pub linear_stages-requires-clause-total : goal.linear_stages-requires-clause-total
linear_stages-requires-clause-total c =
    let made = c.made-made.ensures in
    rw (c.as_slice-3.ensures ∙ made.margins.rows) made.fitting.table.total_fits

pub returns : goal.returns
returns c =
    let made = c.made-made.ensures in
    rw (c.as_slice-2.ensures ∙ made.row_scores, c.as_slice-3.ensures ∙ made.margins.rows, c.as_slice-5.ensures ∙ c.in_ok-singles.ensures, c.as_slice-4.ensures, c.len.ensures, c.in_ok-scores.ensures, c.as_slice-columns.ensures ∙ made.margins.columns, c.as_slice.ensures ∙ made.column_scores, c.requires) at c.linear_stages.ensures
