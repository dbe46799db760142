-- How many rows of a file are dropped in a layout of samples.
use Rattle.std.specs.Prelude.{ℕ, List}
use Rattle.record_reader.specs.declared.missing.Missing.TheVariants.{Drop}
use Rattle.record_reader.specs.declared.picks.Picks.{Picks}
use Rattle.record_reader.specs.Layouts.{MayPick, dropped_rows}
use Rattle.sample_reader.specs.CellLayouts.{block_layout, pair_layout}
use Rattle.sample_reader.specs.GroupLayout.{group_layout}
use Rattle.sample_reader.specs.Sequences.{sequence_layout}
use Rattle.sample_reader.specs.StrataGroups.{strata_groups_layout}
use Rattle.sample_reader.specs.Twins.{twin_layout}
use Rattle.sample_reader.specs.Values.{binary_in, value_in}
use Rattle.sample_reader.specs.declared.layout.Layout.{Layout}
use Rattle.sample_reader.specs.declared.layout.Layout.TheVariants.{Pairs, Groups, Blocks, BinaryBlocks, StrataGroups, Twins, Sequence}
use Rattle.sample_reader.specs.declared.TheConstants.{MOST_LABELS}

-- fields that may be picked in a layout
abbrev pub MayPickFor : Layout → Picks → Type 0
MayPickFor Pairs = MayPick 1 2
MayPickFor Groups = MayPick 2 2
MayPickFor Blocks = MayPick 2 8
MayPickFor BinaryBlocks = MayPick 2 8
MayPickFor StrataGroups = MayPick 3 3
MayPickFor Twins = MayPick 2 2
MayPickFor Sequence = MayPick 1 1

-- how many rows of a file are dropped in a layout, where those that miss a field are: in that of
-- groups, whatever the greatest number of labels
abbrev pub dropped_of : Layout → Picks → List (List (List ℕ)) → ℕ
dropped_of Pairs = dropped_rows pair_layout Drop
dropped_of Groups = dropped_rows (group_layout MOST_LABELS) Drop
dropped_of Blocks = dropped_rows (block_layout value_in) Drop
dropped_of BinaryBlocks = dropped_rows (block_layout binary_in) Drop
dropped_of StrataGroups = dropped_rows strata_groups_layout Drop
dropped_of Twins = dropped_rows twin_layout Drop
dropped_of Sequence = dropped_rows sequence_layout Drop
