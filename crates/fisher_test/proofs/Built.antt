-- A measure over the columns and the rows of a table.
use Rattle.std.proofs.Common.{◌≡◌, arith}
use Rattle.room_network.specs.Meanings.{Meaning}
use Rattle.label_network.specs.LabelNetwork.{IsMargin}
use Rattle.label_network.specs.LabelRooms.{label_floor}
use Rattle.table_reader.specs.TableLayout.{TableData}
use Rattle.table_sums.specs.Tables.{column_sums, row_sums}
use Rattle.table_sums.specs.TableSteps.{IsTable}
use Rattle.table_sums.proofs.MarginSums.{even, few-labels, some-labels, subjects-few}

pub is-margin : (t : TableData) → IsTable t → (m : Meaning) → label_floor (column_sums t) (row_sums t) ≡ m.floor → m.slots ≡ 1 → IsMargin m (column_sums t) (row_sums t)
is-margin t i m floor one = record {
  floor_is = floor;
  labelled = record {
    level = even t;
    units = omega (arith, subjects-few t i);
    few = few-labels t i;
    total = i.total_fits;
  };
  some = some-labels t i;
  wide = omega (arith, few-labels t i, one);
}
