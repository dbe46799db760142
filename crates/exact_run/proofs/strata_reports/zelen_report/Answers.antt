use Rattle.std.proofs.Common.{refl}
use Rattle.networks.specs.declared.one_of.OneOf.TheVariants.{First}
use Rattle.exact_run.proofs.strata_reports.zelen_report.Goals as goal

pub returns : goal.returns
returns c =
    rw c.in_ok-strata.ensures.ok
    ((rw (c.heading_of-heading.ensures.sizes, c.heading_of-heading.ensures.dropped, c.heading_of-heading.ensures.extra) at c.report_homogeneity.ensures)
    (First c.in_ok-strata.strata.cells) c.prepare_zelen-problem.ensures refl)
