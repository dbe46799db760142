use Rattle.std.proofs.Common.{◌∙◌, refl}
use Rattle.sample_reader.specs.Data.{block_data_of}
use Rattle.block_tests.specs.BlockTests.{blocks_for}
use Rattle.exact_run.proofs.block_reports.block_report.Goals as goal

pub returns : goal.returns
returns c =
    rw c.in_ok-blocks.ensures.ok
    ((rw (c.heading_for-heading.ensures.sizes ∙ c.sizes_of.ensures, c.heading_for-heading.ensures.dropped, c.heading_for-heading.ensures.extra, c.layout_read.ensures, c.tails_of.ensures) at c.report_blocks.ensures)
    (blocks_for c.args.kind (block_data_of c.in_ok-blocks.blocks)) c.prepare-problem.ensures refl)
