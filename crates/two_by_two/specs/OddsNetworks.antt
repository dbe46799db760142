-- The network of a table with odds: the rooms of its labels, whose choices weigh the odds of their
-- column too.
use Rattle.std.specs.Prelude.{ℕ, ◌*◌, ◌^◌, List, nat_eq, slice_index, if◌then◌else◌}
use Rattle.weights.specs.declared.odds.Odds.{Odds}
use Rattle.weights.specs.declared.tails.Tail.{Tail}
use Rattle.weights.specs.Labellings.{number_of_labellings}
use Rattle.networks.specs.Judged.{judge_of}
use Rattle.networks.specs.Network.{Network}
use Rattle.room_network.specs.Plans.{Plan, Weights}
use Rattle.room_network.specs.RoomNetworks.{room_network}
use Rattle.label_network.specs.LabelNetwork.{over_rooms}
use Rattle.label_network.specs.LabelRooms.{label_floor}
use Rattle.label_network.specs.Linear.{linear_meaning}
use Rattle.label_network.specs.Meanings.{Meaning}
use Rattle.table_sums.specs.Tables.{column_sums, row_sums}
use Rattle.fisher_test.specs.FisherNetworks.{first_scores}
use Rattle.two_by_two.specs.FisherOdds.{WeightedTable, odds_test}

-- what a subject of the first row weighs in a column
abbrev pub odds_at : Odds → ℕ → ℕ
odds_at odds column = if nat_eq column 0 then odds.above else odds.below

-- a choice weighs as many labellings as it has, each with the odds of its subjects
abbrev pub odds_weights : Odds → Weights
odds_weights odds g room c = number_of_labellings c * odds_at odds g ^ slice_index c 0

abbrev pub odds_plan : Odds → List ℕ → List ℕ → Plan
odds_plan odds columns rows =
    record { floor = label_floor columns rows; weight = odds_weights odds }

-- what is measured is the first cell
abbrev pub cell_meaning : WeightedTable → Meaning
cell_meaning weighted =
    linear_meaning first_scores (row_sums weighted.table)
    first_scores (column_sums weighted.table) (judge_of (odds_test weighted))

-- one network for both tails
abbrev pub odds_network : WeightedTable → Tail → Network
odds_network weighted tail =
    room_network (over_rooms (cell_meaning weighted)) (odds_weights weighted.odds)
