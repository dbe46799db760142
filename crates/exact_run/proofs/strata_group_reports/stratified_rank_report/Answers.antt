use Rattle.std.proofs.Common.{◌∙◌, refl}
use Rattle.sample_reader.specs.Data.{strata_data_of}
use Rattle.networks.specs.declared.one_of.OneOf.TheVariants.{Second}
use Rattle.exact_run.proofs.strata_group_reports.stratified_rank_report.Goals as goal

pub returns : goal.returns
returns c =
    rw c.in_ok-samples.ensures.ok
    ((rw (c.heading_for-heading.ensures.sizes ∙ c.sizes_of.ensures, c.heading_for-heading.ensures.dropped, c.heading_for-heading.ensures.extra) at c.report_homogeneity.ensures)
    (Second (strata_data_of c.in_ok-samples.samples)) c.prepare_ranks-problem.ensures refl)
