use Rattle.std.proofs.Common.{◌∙◌, refl}
use Rattle.sample_reader.specs.Data.{sequence_data_of}
use Rattle.networks.specs.declared.one_of.OneOf.TheVariants.{Second}
use Rattle.exact_run.proofs.sequence_reports.runs_report.Goals as goal

pub returns : goal.returns
returns c =
    rw c.in_ok-sequence.ensures.ok
    ((rw (c.heading_for-heading.ensures.sizes ∙ c.in_ok-sequence_sizes.ensures, c.heading_for-heading.ensures.dropped, c.heading_for-heading.ensures.extra) at c.report_sequence.ensures)
    (Second (sequence_data_of c.in_ok-sequence.sequence)) c.prepare_runs-problem.ensures refl)
