use Rattle.std.proofs.Common.{refl}
use Rattle.table_reader.specs.Data.{table_data_of}
use Rattle.one_sample_tests.specs.SignedSamples.{discordant}
use Rattle.exact_run.proofs.table_reports.mcnemar_report.Goals as goal

pub returns : goal.returns
returns c =
    rw c.in_ok-table.ensures.ok
    ((rw (c.heading_of.ensures.sizes, c.heading_of.ensures.dropped, c.heading_of.ensures.extra) at c.report_one_sample.ensures)
    (discordant (table_data_of c.in_ok-table.table)) c.prepare_mcnemar-problem.ensures refl)
