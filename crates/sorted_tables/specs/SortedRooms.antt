-- Rooms of labels whose sizes stand in falling order: a stage is a column, a choice says how many
-- of its subjects get each label, and a room has the sizes that remain, the greatest first. Which
-- tables complete a room does not depend on the order of its sizes. Choices that differ in the
-- order of rows of equal size alone are one.
use Rattle.std.specs.Prelude.{◌≡◌, ℕ, pos, List, filter, length, map, nat_le, slice_index}
use Rattle.weights.specs.Grouped.{choices, columns_of, minus, table_weight}
use Rattle.weights.specs.InOrder.{in_order}
use Rattle.weights.specs.Labellings.{labellings}
use Rattle.room_network.specs.Plans.{Floor, Gives, Plan, Weights}
use Rattle.completion_bounds.specs.Fillings.{falling}
use Rattle.label_network.specs.ChoiceOrder.{later_choices}
use Rattle.label_network.specs.LabelRooms.{label_floor}
use Rattle.label_network.specs.Meanings.{sizes_in}
use Rattle.sorted_tables.specs.GatheredChoices.{gathered_weight, is_gathered}

-- sizes with the least first
abbrev pub rising : List ℕ → List ℕ
rising sizes = in_order nat_le sizes

-- the rooms of labels, but for choices that others stand for, and for the order of the sizes that a
-- choice leaves
abbrev pub sorted_floor : List ℕ → List ℕ → Floor
sorted_floor columns rows = record (label_floor columns rows) {
  choices = λ g room. filter (is_gathered (sizes_in room))
      (choices (slice_index columns g) (sizes_in room));
  later = λ g room c. filter (is_gathered (sizes_in room))
      (later_choices (slice_index columns g) (sizes_in room) c);
  next = λ g room c. map pos (falling (minus (sizes_in room) c));
}

-- a choice weighs as much as all that it stands for
abbrev pub sorted_weight : Weights
sorted_weight g room c = gathered_weight (sizes_in room) c

abbrev pub sorted_plan : List ℕ → List ℕ → Plan
sorted_plan columns rows = record { floor = sorted_floor columns rows; weight = sorted_weight }

-- Each labelling of the rows goes one way through the rooms of the rows in falling order and the
-- columns in rising order, and the choices of that way have as many labellings, one by one, as the
-- columns of the labelling's table.
pub record GivesTables (columns rows : List ℕ) : Type 0 where
  pub cut : List ℕ → List (List ℕ)
  pub gives : Gives (sorted_plan (rising columns) (falling rows)) (labellings rows) (λ xs. 1) cut
  pub weighs : (xs : List ℕ)
      → table_weight (cut xs) ≡ table_weight (columns_of (length rows) columns xs)
