-- The rooms of Kendall's test: a stage is a distinct first value, ascending, and a choice says how
-- many of the subjects that have it get each second value that is left. A room is the code of the
-- counts that are left: the counts that are 0 are not kept.
use Rattle.std.specs.Prelude.{ℕ, ℤ, pos, nat_abs, List, [], ◌∷◌, length, drop, slice_index, slice_index_or}
use Rattle.std.specs.List.{sum}
use Rattle.weights.specs.Grouped.{choices, minus}
use Rattle.room_network.specs.Plans.{Floor, Plan}
use Rattle.label_network.specs.ChoiceOrder.{later_choices}
use Rattle.label_network.specs.LabelRooms.{label_weight}
use Rattle.kendall_test.specs.CountCodes.{code, counts_of_code}

-- the number of a room
abbrev pub code_in : List ℤ → ℕ
code_in room = nat_abs (slice_index_or room 0 (pos 0))

-- the counts of m second values that are left before stage g, those that are 0 last
abbrev pub counts_left : List ℕ → ℕ → ℕ → List ℤ → List ℕ
counts_left columns m g room = counts_of_code m (sum (drop g columns)) (code_in room)

abbrev pub room_of_counts : List ℕ → List ℤ
room_of_counts counts = pos (code counts) ∷ []

-- columns says how many subjects have each distinct first value, rows how many have each second
abbrev pub kendall_floor : List ℕ → List ℕ → Floor
kendall_floor columns rows = record {
  count = length columns;
  width = 1;
  choice_width = length rows;
  first = room_of_counts rows;
  choices = λ g room. let left = counts_left columns (length rows) g room in
      choices (slice_index columns g) left;
  later = λ g room c. let left = counts_left columns (length rows) g room in
      later_choices (slice_index columns g) left c;
  next = λ g room c. room_of_counts (minus (counts_left columns (length rows) g room) c);
}

abbrev pub kendall_plan : List ℕ → List ℕ → Plan
kendall_plan columns rows =
    record { floor = kendall_floor columns rows; weight = label_weight }
