use Rattle.std.proofs.Common.{◌∙◌, refl}
use Rattle.one_sample_tests.specs.SignedSamples.{sample_of}
use Rattle.exact_run.proofs.pair_reports.pair_report.Goals as goal

pub returns : goal.returns
returns c =
    rw c.in_ok-pairs.ensures.ok
    ((rw (c.heading_for-heading.ensures.sizes ∙ c.sizes_of.ensures, c.heading_for-heading.ensures.dropped, c.heading_for-heading.ensures.extra) at c.report_one_sample.ensures)
    (sample_of c.args.kind c.in_ok-pairs.pairs.differences) c.prepare_pairs-problem.ensures refl)
