-- The rooms of labels over columns: a stage is a column, a choice says how many of the column's
-- subjects get each label, and a room has the sizes that remain.
use Rattle.std.specs.Prelude.{◌≡◌, ℕ, ◌^◌, ◌<◌, ◌≤◌, pos, List, length, map, slice_index}
use Rattle.std.specs.List.{sum}
use Rattle.weights.specs.declared.TheConstants.{MAX}
use Rattle.weights.specs.Grouped.{choices, columns_of, minus}
use Rattle.weights.specs.Labellings.{labellings, number_of_labellings}
use Rattle.room_network.specs.Plans.{Floor, Gives, Plan, Weights}
use Rattle.label_network.specs.ChoiceOrder.{later_choices}
use Rattle.label_network.specs.Meanings.{sizes_in}

abbrev pub label_floor : List ℕ → List ℕ → Floor
label_floor columns rows = record {
  count = length columns;
  width = length rows;
  choice_width = length rows;
  first = map pos rows;
  choices = λ g room. choices (slice_index columns g) (sizes_in room);
  later = λ g room c. later_choices (slice_index columns g) (sizes_in room) c;
  next = λ g room c. map pos (minus (sizes_in room) c);
}

-- a choice weighs as much as it has labellings
abbrev pub label_weight : Weights
label_weight g room c = number_of_labellings c

abbrev pub label_plan : List ℕ → List ℕ → Plan
label_plan columns rows = record { floor = label_floor columns rows; weight = label_weight }

-- the grouping law: the weighted tables of counts are the labellings of single subjects, each of
-- which is counted once
abbrev pub GivesLabellings : List ℕ → List ℕ → Type 0
GivesLabellings columns rows =
    Gives (label_plan columns rows) (labellings rows) (λ xs. 1) (columns_of (length rows) columns)

-- there are as many subjects as labels, and not too many
pub record IsLabelled (columns rows : List ℕ) : Type 0 where
  pub level : sum columns ≡ sum rows
  pub units : sum rows < 2 ^ 64
  pub few : length rows ≤ 8
  pub total : number_of_labellings rows ≤ MAX
