-- What is asked of blocks: the tests of treatments.
use Rattle.std.specs.Prelude.{ℕ, List, Option, Result}
use Rattle.weights.specs.Results.{with_fault, with_value}
use Rattle.record_reader.specs.declared.faults.LayoutFault.{LayoutFault}
use Rattle.record_reader.specs.declared.missing.Missing.{Missing}
use Rattle.record_reader.specs.declared.picks.Picks.{Picks}
use Rattle.sample_reader.specs.CellLayouts.{BlockData, binary_blocks_in, blocks_in}
use Rattle.sample_reader.specs.declared.layout.Layout.{Layout}
use Rattle.sample_reader.specs.declared.layout.Layout.TheVariants.{BinaryBlocks, Blocks}
use Rattle.settings.specs.declared.settings.Settings.{Settings}
use Rattle.report.specs.declared.headings.Extra.TheVariants as extra
use Rattle.report.specs.declared.headings.Sizes.{Sizes}
use Rattle.report.specs.declared.headings.Sizes.TheVariants as sizes
use Rattle.report.specs.declared.refusals.Refusal.{Refusal}
use Rattle.block_tests.specs.BlockNetworks.{block_network, running_network}
use Rattle.block_tests.specs.BlockTests.{block_test, blocks_for}
use Rattle.block_tests.specs.declared.kinds.BlockKind.{BlockKind}
use Rattle.block_tests.specs.declared.kinds.BlockKind.TheVariants.{Cochran}
use Rattle.run_outcome.specs.Question.{Question, question_about}
use Rattle.exact_run.specs.Layouts.{dropped_told, layout_refusal}

-- Cochran's test reads cells of 0 and 1, and the others read values
abbrev pub blocks_read : BlockKind → Missing → Picks → List (List (List ℕ))
    → Result BlockData LayoutFault
blocks_read Cochran = binary_blocks_in
blocks_read _ = blocks_in

abbrev pub layout_read : BlockKind → Layout
layout_read Cochran = BinaryBlocks
layout_read _ = Blocks

abbrev pub block_sizes : BlockData → Sizes
block_sizes blocks = sizes.Blocks blocks.blocks blocks.treatments

abbrev pub block_question : BlockKind → Option ℕ → BlockData → Question
block_question kind dropped blocks =
    question_about block_test block_network running_network (blocks_for kind blocks)
    (block_sizes blocks) dropped extra.None

abbrev pub blocks_of : BlockKind → Settings → List (List (List ℕ)) → Result Question Refusal
blocks_of kind settings rows =
    with_value (block_question kind (dropped_told settings (layout_read kind) rows))
    (with_fault layout_refusal (blocks_read kind settings.missing settings.picks rows))
