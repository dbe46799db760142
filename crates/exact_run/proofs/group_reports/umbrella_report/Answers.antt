use Rattle.std.proofs.Common.{◌≡◌, ◌∙◌, refl, true}
use Rattle.sample_reader.specs.Data.{data_of}
use Rattle.networks.specs.declared.one_of.OneOf.TheVariants.{Second}
use Rattle.exact_run.specs.GroupQuestions.{has_peak}
use Rattle.exact_run.proofs.group_reports.umbrella_report.Goals as goal

pub returns : goal.returns
returns c =
    let groups = data_of c.in_ok-groups.groups in
    let peak = c.args.request.now.settings.now.peak in
    let here : has_peak peak groups ≡ true = cc in
    rw (c.in_ok-groups.ensures.ok, here)
    ((rw (c.heading_for-heading.ensures.sizes ∙ c.sizes_of.ensures, c.heading_for-heading.ensures.dropped, c.heading_for-heading.ensures.extra) at c.report_samples.ensures)
    (Second (record { peak = peak; groups = groups })) c.prepare_umbrella-problem.ensures refl)
