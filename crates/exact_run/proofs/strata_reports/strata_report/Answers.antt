use Rattle.stratified_tests.specs.StrataTests.{data_of, strata_test}
use Rattle.run_outcome.proofs.PreparedOutcome.{prepared-tails}
use Rattle.exact_run.proofs.strata_reports.strata_report.Goals as goal

pub report_strata-requires-clause-has : goal.report_strata-requires-clause-has
report_strata-requires-clause-has c =
    let strata = data_of c.args.request.now.settings.now.odds c.in_ok-strata.strata.cells in
    prepared-tails strata_test strata c.prepared-problem.result c.tails_of-tails.result c.tails_of-tails.ensures c.prepared-problem.ensures

pub returns : goal.returns
returns c =
    rw c.in_ok-strata.ensures.ok
    ((rw (c.heading_of.ensures.sizes, c.heading_of.ensures.dropped, c.heading_of.ensures.extra) at c.report_strata.ensures)
    (data_of c.args.request.now.settings.now.odds c.in_ok-strata.strata.cells) c.prepared-problem.ensures c.tails_of-tails.ensures)
