-- The weight of a table over rooms whose sizes stand in falling order: its rows are taken in
-- falling order and its columns in rising order, keys whose sizes are the same in another order are
-- one, and so are choices that differ in the order of rows of equal size. Its interval is narrower
-- than that over the columns alone: it goes by the rows, too.
use Rattle.std.specs.Prelude.{ℕ, ℤ, pos, List, drop, max, min, nat_le, if◌then◌else◌}
use Rattle.weights.specs.declared.TheConstants.{MAX}
use Rattle.completion_bounds.specs.Fillings.{falling, product_by}
use Rattle.networks.specs.Judged.{judge_of}
use Rattle.networks.specs.Network.{Network}
use Rattle.networks.specs.declared.verdicts.Judge.{Judge}
use Rattle.room_network.specs.Meanings.{Meaning}
use Rattle.room_network.specs.Numbers.{Numbers, scalar_meaning}
use Rattle.room_network.specs.RoomNetworks.{room_network}
use Rattle.label_network.specs.LabelNetwork.{over_sizes}
use Rattle.label_network.specs.Meanings.{sizes_in}
use Rattle.row_products.specs.RowProducts.{factorial, greatest_by_rows, least_by_rows}
use Rattle.sorted_tables.specs.SortedRooms.{rising, sorted_floor, sorted_weight}
use Rattle.table_reader.specs.TableLayout.{TableData}
use Rattle.table_sums.specs.Tables.{column_sums, row_sums}
use Rattle.fisher_test.specs.FisherExact.{fisher_test}
use Rattle.fisher_test.specs.Weighing.{greatest_factor, least_factor, weight_numbers}

-- by what the later columns multiply a product, at least: each by itself, and where the product of
-- their factorials is held each row by itself, whichever says more
abbrev pub sharper_low : List ℕ → ℕ → List ℕ → ℕ
sharper_low columns g r =
    if nat_le (product_by factorial (drop g columns)) MAX
    then max (least_factor columns g r) (least_by_rows r (drop g columns))
    else least_factor columns g r

-- and at most
abbrev pub sharper_high : List ℕ → ℕ → List ℕ → ℕ
sharper_high columns g r =
    if nat_le (product_by factorial (drop g columns)) MAX
    then min (greatest_factor columns g r) (greatest_by_rows r (drop g columns))
    else greatest_factor columns g r

-- the weight of tables with these rows, the greatest first, and columns
abbrev pub sorted_numbers : List ℕ → Judge → Numbers (List ℤ)
sorted_numbers columns judge = record (over_sizes (weight_numbers columns judge)) {
  least = λ g room. pos (sharper_low columns g (sizes_in room));
  greatest = λ g room. pos (sharper_high columns g (sizes_in room));
}

abbrev pub sorted_meaning : List ℕ → List ℕ → Judge → Meaning
sorted_meaning rows columns judge =
    scalar_meaning (sorted_floor columns rows) (sorted_numbers columns judge)

abbrev pub sorted_rarity_meaning : TableData → Meaning
sorted_rarity_meaning table =
    sorted_meaning (falling (row_sums table)) (rising (column_sums table))
    (judge_of (fisher_test table))

-- the network of a table's weight that is quicker than the one that is written down
abbrev pub sorted_network : TableData → Network
sorted_network table = room_network (sorted_rarity_meaning table) sorted_weight
