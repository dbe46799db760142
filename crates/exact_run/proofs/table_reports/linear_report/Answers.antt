use Rattle.std.proofs.Common.{refl}
use Rattle.table_reader.specs.Data.{table_data_of}
use Rattle.linear_by_linear.specs.LinearSteps.{scored_of}
use Rattle.networks.specs.declared.one_of.OneOf.TheVariants.{First, Second}
use Rattle.settings.specs.declared.names.OptionName.TheVariants.{RowScores, ColumnScores}
use Rattle.exact_run.proofs.TableScores.{fitting, rows-few}
use Rattle.exact_run.proofs.table_reports.linear_report.Goals as goal

pub prepare_linear-problem-requires-clause-rows_level : goal.prepare_linear-problem-requires-clause-rows_level
prepare_linear-problem-requires-clause-rows_level c =
    let table = c.in_ok-table.table in
    rw c.as_slice.ensures (fitting RowScores table.rows c.args.request.now.settings.now.row_scores c.in_ok-row_scores.row_scores (rows-few table.rows table.few_rows) c.requires.row_scores c.in_ok-row_scores.ensures.ok).many

pub prepare_linear-problem-requires-clause-columns_level : goal.prepare_linear-problem-requires-clause-columns_level
prepare_linear-problem-requires-clause-columns_level c =
    let table = c.in_ok-table.table in
    rw c.as_slice-2.ensures (fitting ColumnScores table.columns c.args.request.now.settings.now.column_scores c.in_ok-column_scores.column_scores table.few_columns c.requires.column_scores c.in_ok-column_scores.ensures.ok).many

pub prepare_linear-problem-requires-clause-rows : goal.prepare_linear-problem-requires-clause-rows
prepare_linear-problem-requires-clause-rows c =
    let table = c.in_ok-table.table in
    rw c.as_slice.ensures (fitting RowScores table.rows c.args.request.now.settings.now.row_scores c.in_ok-row_scores.row_scores (rows-few table.rows table.few_rows) c.requires.row_scores c.in_ok-row_scores.ensures.ok).small

pub prepare_linear-problem-requires-clause-columns : goal.prepare_linear-problem-requires-clause-columns
prepare_linear-problem-requires-clause-columns c =
    let table = c.in_ok-table.table in
    rw c.as_slice-2.ensures (fitting ColumnScores table.columns c.args.request.now.settings.now.column_scores c.in_ok-column_scores.column_scores table.few_columns c.requires.column_scores c.in_ok-column_scores.ensures.ok).small

pub returns : goal.returns
returns c =
    let table = table_data_of c.in_ok-table.table in
    let us = c.in_ok-row_scores.row_scores in
    let vs = c.in_ok-column_scores.column_scores in
    rw (c.in_ok-table.ensures.ok, c.in_ok-row_scores.ensures.ok, c.in_ok-column_scores.ensures.ok)
    ((rw (c.heading_of.ensures.sizes, c.heading_of.ensures.dropped, c.heading_of.ensures.extra) at c.report_table.ensures)
    (First (Second (scored_of table us vs))) (rw (c.as_slice.ensures, c.as_slice-2.ensures) at c.prepare_linear-problem.ensures) refl)
