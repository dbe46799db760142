use Rattle.table_reader.specs.Data.{table_data_of}
use Rattle.fisher_test.specs.FisherExact.{fisher_test}
use Rattle.table_tests.specs.TableTests.{table_test}
use Rattle.networks.specs.declared.one_of.OneOf.TheVariants.{First}
use Rattle.run_outcome.proofs.PreparedOutcome.{prepared-tails, same-tails}
use Rattle.exact_run.proofs.table_reports.central_report.Goals as goal

pub report_table-requires-clause-has : goal.report_table-requires-clause-has
report_table-requires-clause-has c =
    let table = table_data_of c.args.table.now in
    prepared-tails table_test (First (First table)) c.prepare_fisher-problem.result c.fisher_tails-tails.result
    (same-tails c.fisher_tails-tails.result (fisher_test table).has_tail c.fisher_tails-tails.ensures) c.prepare_fisher-problem.ensures

pub returns : goal.returns
returns c =
    let table = table_data_of c.args.table.now in
    (rw (c.heading_of.ensures.sizes, c.heading_of.ensures.dropped, c.heading_of.ensures.extra) at c.report_table.ensures) (First (First table)) c.prepare_fisher-problem.ensures
    (same-tails c.fisher_tails-tails.result (fisher_test table).has_tail c.fisher_tails-tails.ensures)
