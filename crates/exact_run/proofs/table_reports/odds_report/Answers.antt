use Rattle.std.proofs.Common.{◌≡◌, refl, true}
use Rattle.table_reader.specs.Data.{table_data_of}
use Rattle.two_by_two.specs.OddsSteps.{weighted_of}
use Rattle.table_sums.specs.Tables.{is_two_by_two}
use Rattle.table_tests.specs.TableTests.{table_test}
use Rattle.networks.specs.declared.one_of.OneOf.TheVariants.{Second}
use Rattle.run_outcome.proofs.PreparedOutcome.{prepared-tails}
use Rattle.exact_run.proofs.table_reports.odds_report.Goals as goal

pub report_table-requires-clause-has : goal.report_table-requires-clause-has
report_table-requires-clause-has c =
    let weighted = weighted_of (table_data_of c.args.table.now) c.args.odds in
    prepared-tails table_test (Second weighted) c.prepare_odds-problem.result _ refl c.prepare_odds-problem.ensures

pub returns : goal.returns
returns c =
    let table = table_data_of c.args.table.now in
    let here : is_two_by_two table ≡ true = cc in
    rw here
    ((rw (c.heading_of.ensures.sizes, c.heading_of.ensures.dropped, c.heading_of.ensures.extra) at c.report_table.ensures)
    (Second (weighted_of table c.args.odds)) c.prepare_odds-problem.ensures refl)
