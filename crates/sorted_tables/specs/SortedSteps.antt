-- What the bodies of sorted rooms keep, and words for them.
use Rattle.std.specs.Prelude.{◌≡◌, ℕ, suc, ◌+◌, ◌-◌, ◌*◌, ◌^◌, ◌<◌, ◌≤◌, ◌&&◌, ℤ, Bool, List, [], ◌∷◌, get_or, length, max, nat_eq, nat_lt, slice_index, true, if◌then◌else◌}
use Rattle.std.specs.List.{count_by, filter, sum, Contains}
use Rattle.weights.specs.declared.TheConstants.{MAX}
use Rattle.weights.specs.Grouped.{choices, fits}
use Rattle.weights.specs.Labellings.{number_of_labellings}
use Rattle.completion_bounds.specs.Fillings.{falling}
use Rattle.networks.specs.Completions.{total_weight}
use Rattle.room_network.specs.Plans.{alone}
use Rattle.label_network.specs.LabelRooms.{IsLabelled}
use Rattle.label_network.specs.LabelSteps.{AreSizes, IsHeld, least}
use Rattle.label_network.specs.Meanings.{sizes_in}
use Rattle.sorted_tables.specs.GatheredChoices.{gathered_weight, is_gathered, is_gathered_into}
use Rattle.sorted_tables.specs.SortedRooms.{sorted_floor, sorted_plan}

pub record AreSorted (columns rows : List ℕ) (width : ℕ) : Type 0 where
  pub sound : IsLabelled columns rows
  pub falls : falling rows ≡ rows
  pub held : IsHeld width rows

-- how many choices are gathered into one
abbrev pub gathered_count : List ℕ → List ℕ → ℕ
gathered_count rows into = count_by (is_gathered_into rows into) (choices (sum into) rows)

-- how many of the rows that come next have a size: all of them, or until one has another
abbrev pub run : ℕ → List ℕ → ℕ
run size [] = 0
run size (row ∷ rows) = if nat_eq row size then suc (run size rows) else 0

-- whether a number stands again right behind a place
abbrev pub stands_again : List ℕ → ℕ → Bool
stands_again xs i =
    nat_lt (i + 1) (length xs) && nat_eq (get_or xs (i + 1) 0) (get_or xs i 0)

-- the first choice behind a row of a size that gets so many: as little as can be to each row in
-- turn, and to one of the size of the row before no less than that one gets
abbrev pub raised : ℕ → ℕ → ℕ → List ℕ → List ℕ
raised size least total [] = []
raised size least total (row ∷ rows) =
    let count = max (if nat_eq row size then least else 0) (total - sum rows) in
    count ∷ raised row count (total - count) rows

-- how many rows from the first one on have its size
abbrev pub run_from : List ℕ → ℕ
run_from [] = 0
run_from (size ∷ rows) = run size rows + 1

-- in how many orders rows of equal size may stand
abbrev pub row_orders : List ℕ → ℕ
row_orders [] = 1
row_orders (size ∷ rows) = run_from (size ∷ rows) * row_orders rows

-- whether counts fit behind a row of a size that gets so many, and the choices that do
abbrev pub fits_behind : ℕ → ℕ → List ℕ → List ℕ → Bool
fits_behind size count rows x = is_gathered (size ∷ rows) (count ∷ x)

abbrev pub kept : ℕ → ℕ → ℕ → List ℕ → List (List ℕ)
kept size count column rows = filter (fits_behind size count rows) (choices column rows)

-- a room of few enough labellings, and a column of no more subjects
pub record IsRoomFor (width column : ℕ) (room : List ℤ) : Type 0 where
  pub few : length room ≤ 8
  pub sizes : AreSizes room
  pub small : sum (sizes_in room) < 2 ^ 64
  pub held : IsHeld width (sizes_in room)
  pub fits : number_of_labellings (sizes_in room) ≤ MAX
  pub enough : column ≤ sum (sizes_in room)

-- a choice of the column that stands for all that are gathered into it
pub record IsGatheredChoice (column : ℕ) (room : List ℤ) (choice : List ℕ) : Type 0 where
  pub allowed : Contains (choices column (sizes_in room)) choice
  pub gathered : is_gathered (sizes_in room) choice ≡ true

-- what is known of a room that is reached, and before the last stage of it for its column
pub record RoomSeat (columns rows : List ℕ) (width g : ℕ) (room : List ℤ) : Type 0 where
  pub long : length room ≡ length rows
  pub fits : IsRoomFor width 0 room
  pub rest : total_weight (alone (sorted_plan columns rows)) g room
      ≡ number_of_labellings (sizes_in room)
  pub before : g < length columns → IsRoomFor width (slice_index columns g) room
  pub first : g < length columns → let x = least (slice_index columns g) (sizes_in room) in
      (sorted_floor columns rows).choices g room ≡ x ∷ (sorted_floor columns rows).later g room x

-- and of such a choice for it
pub record ChoiceSeat (width column : ℕ) (room : List ℤ) (x : List ℕ) : Type 0 where
  pub whole : column ≡ sum x
  pub fitting : fits x (sizes_in room) ≡ true
  pub held : IsHeld width x
  pub gathered_few : gathered_weight (sizes_in room) x ≤ MAX
