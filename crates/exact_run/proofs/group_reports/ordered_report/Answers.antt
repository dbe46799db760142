use Rattle.std.proofs.Common.{◌∙◌, length, refl}
use Rattle.sample_reader.specs.Data.{data_of}
use Rattle.networks.specs.declared.one_of.OneOf.TheVariants.{Second}
use Rattle.exact_run.proofs.group_reports.ordered_report.Goals as goal

pub returns : goal.returns
returns c =
    let groups = data_of c.in_ok-groups.groups in
    rw c.in_ok-groups.ensures.ok
    ((rw (c.heading_for-heading.ensures.sizes ∙ c.sizes_of.ensures, c.heading_for-heading.ensures.dropped, c.heading_for-heading.ensures.extra) at c.report_samples.ensures)
    (Second (record { peak = length groups.labels; groups = groups })) (rw c.len.ensures at c.prepare_umbrella-problem.ensures) refl)
