use Rattle.std.proofs.Common.{◌∙◌, refl}
use Rattle.sample_reader.specs.Data.{twin_data_of}
use Rattle.networks.specs.declared.one_of.OneOf.TheVariants.{First}
use Rattle.exact_run.proofs.sequence_reports.kendall_report.Goals as goal

pub returns : goal.returns
returns c =
    rw c.in_ok-sample.ensures.ok
    ((rw (c.heading_for-heading.ensures.sizes ∙ c.twin_sizes.ensures, c.heading_for-heading.ensures.dropped, c.heading_for-heading.ensures.extra) at c.report_sequence.ensures)
    (First (twin_data_of c.in_ok-sample.sample)) c.prepare_kendall-problem.ensures refl)
