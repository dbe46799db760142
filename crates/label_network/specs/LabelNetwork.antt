-- The network of a measure of labels: a key has the sizes that remain, its room, and then the
-- measure's partial.
use Rattle.std.specs.Prelude.{◌≡◌, ℕ, ℤ, ◌+◌, ◌≤◌, Bool, List, length, filter}
use Rattle.weights.specs.Grouped.{columns_of}
use Rattle.weights.specs.Labellings.{labellings}
use Rattle.networks.specs.Network.{Network}
use Rattle.room_network.specs.Meanings.{Meaning as RoomMeaning}
use Rattle.room_network.specs.Meanings.{way_value}
use Rattle.room_network.specs.Numbers.{Numbers}
use Rattle.room_network.specs.RoomNetworks.{room_network}
use Rattle.label_network.specs.LabelRooms.{IsLabelled, label_floor, label_weight}
use Rattle.label_network.specs.Meanings.{Meaning, sizes_in}

-- a measure of labels as one of rooms, whose numbers are the sizes that remain
abbrev pub over_rooms : Meaning → RoomMeaning
over_rooms m = record {
  floor = label_floor m.columns m.rows;
  slots = m.slots;
  step_width = m.step_width;
  outlook_width = m.outlook_width;
  first = m.first;
  step = λ g room c. m.step g (sizes_in room) c;
  advance = λ g room c p. m.advance g (sizes_in room) c p;
  outlook = λ g room. m.outlook g (sizes_in room);
  value = m.value;
  low = λ g room p. m.low g (sizes_in room) p;
  high = λ g room p. m.high g (sizes_in room) p;
  judge = m.judge;
}

abbrev pub label_network : Meaning → Network
label_network m = room_network (over_rooms m) label_weight

-- over rooms, what is one number of labels
abbrev pub over_sizes : Numbers (List ℕ) → Numbers (List ℤ)
over_sizes n = record {
  operation = n.operation;
  step = λ g room c. n.step g (sizes_in room) c;
  least = λ g room. n.least g (sizes_in room);
  greatest = λ g room. n.greatest g (sizes_in room);
  judge = n.judge;
}

-- a measure of the rooms of columns and rows, of which there are few enough
pub record IsMargin (m : RoomMeaning) (columns rows : List ℕ) : Type 0 where
  pub floor_is : label_floor columns rows ≡ m.floor
  pub labelled : IsLabelled columns rows
  pub some : 2 ≤ length rows
  pub wide : length rows + m.slots ≤ 16

-- how many labellings of the rows have a value that passes, each seen by the columns, whose
-- subjects are consecutive
abbrev pub labellings_passing : RoomMeaning → List ℕ → List ℕ → (ℤ → Bool) → ℕ
labellings_passing m columns rows p =
    length (filter (λ xs. p (way_value m (columns_of (length rows) columns xs))) (labellings rows))
