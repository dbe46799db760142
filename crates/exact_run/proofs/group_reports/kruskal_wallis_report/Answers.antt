use Rattle.std.proofs.Common.{◌∙◌, refl}
use Rattle.sample_reader.specs.Data.{data_of}
use Rattle.networks.specs.declared.one_of.OneOf.TheVariants.{First}
use Rattle.exact_run.proofs.group_reports.kruskal_wallis_report.Goals as goal

pub returns : goal.returns
returns c =
    rw c.in_ok-groups.ensures.ok
    ((rw (c.heading_for-heading.ensures.sizes ∙ c.sizes_of.ensures, c.heading_for-heading.ensures.dropped, c.heading_for-heading.ensures.extra) at c.report_samples.ensures)
    (First (record { kind = c.args.request.now.settings.now.scores; groups = data_of c.in_ok-groups.groups })) c.prepare_kw-problem.ensures refl)
