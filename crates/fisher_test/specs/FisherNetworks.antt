-- The networks of Fisher's test: a stage is a column, in the order of the table, and its choice
-- says how many of its subjects are in each row.
use Rattle.std.specs.Prelude.{ℤ, pos, List, [], ◌∷◌}
use Rattle.weights.specs.declared.tails.Tail.{Tail}
use Rattle.weights.specs.declared.tails.Tail.TheVariants.{Less, Greater, Two}
use Rattle.networks.specs.Judged.{judge_of}
use Rattle.networks.specs.Network.{Network}
use Rattle.label_network.specs.LabelNetwork.{label_network}
use Rattle.label_network.specs.Linear.{linear_meaning}
use Rattle.label_network.specs.Meanings.{Meaning}
use Rattle.table_reader.specs.TableLayout.{TableData}
use Rattle.table_sums.specs.Tables.{column_sums, row_sums}
use Rattle.fisher_test.specs.FisherExact.{fisher_test}
use Rattle.fisher_test.specs.Weighing.{weight_meaning}

-- the first cell has the subjects of the first row and the first column, which score 1
abbrev pub first_scores : List ℤ
first_scores = pos 1 ∷ pos 0 ∷ []

abbrev pub first_cell_meaning : TableData → Meaning
first_cell_meaning table =
    linear_meaning first_scores (row_sums table) first_scores (column_sums table)
    (judge_of (fisher_test table))

abbrev pub rarity_meaning : TableData → Meaning
rarity_meaning table =
    weight_meaning (row_sums table) (column_sums table) (judge_of (fisher_test table))

-- what is measured for one side is the first cell, and for both sides the table's weight
abbrev pub fisher_network : TableData → Tail → Network
fisher_network table Less = label_network (first_cell_meaning table)
fisher_network table Greater = label_network (first_cell_meaning table)
fisher_network table Two = label_network (rarity_meaning table)
