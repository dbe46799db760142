-- The networks of the linear-by-linear test: a stage is a column, in the order of the table, and
-- its choice says how many of its subjects are in each row.
use Rattle.std.specs.Prelude.{ℤ, List, length, replicate}
use Rattle.weights.specs.declared.tails.Tail.{Tail}
use Rattle.networks.specs.Judged.{judge_of}
use Rattle.networks.specs.Network.{Network}
use Rattle.later_scores.specs.LaterSums.{subjects}
use Rattle.label_network.specs.LabelNetwork.{label_network}
use Rattle.label_network.specs.Linear.{linear_meaning}
use Rattle.label_network.specs.Meanings.{Meaning}
use Rattle.table_sums.specs.Tables.{column_sums, row_sums}
use Rattle.linear_by_linear.specs.LinearByLinear.{ScoredTable, linear_test}

abbrev pub product_meaning : ScoredTable → Meaning
product_meaning scored =
    linear_meaning scored.row_scores (row_sums scored.table)
    scored.column_scores (column_sums scored.table) (judge_of (linear_test scored))

-- one network for all tails
abbrev pub linear_network : ScoredTable → Tail → Network
linear_network scored tail = label_network (product_meaning scored)

-- the same sum with each subject as a column of its own, which has its column's score: what remains
-- of the rows asks for the sums alone, so that tied subjects need not be taken together
abbrev pub subject_meaning : ScoredTable → Meaning
subject_meaning scored =
    let units : List ℤ = subjects scored.column_scores (column_sums scored.table) in
    linear_meaning scored.row_scores (row_sums scored.table)
    units (replicate (length units) 1) (judge_of (linear_test scored))
