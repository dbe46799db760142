use Rattle.std.proofs.Common.{◌∙◌, refl}
use Rattle.sample_reader.specs.Data.{data_of}
use Rattle.exact_run.proofs.group_reports.two_sample_report.Goals as goal

pub returns : goal.returns
returns c =
    rw c.in_ok-groups.ensures.ok
    ((rw (c.heading_for-heading.ensures.sizes ∙ c.sizes_of.ensures, c.heading_for-heading.ensures.dropped, c.heading_for-heading.ensures.extra) at c.report_two_samples.ensures)
    (record { kind = c.args.kind; groups = data_of c.in_ok-groups.groups }) c.prepare-problem.ensures refl)
