-- The layout of groups: in each row a label and a value.
use Rattle.std.specs.Prelude.{ℕ, ◌==◌, Bool, ℤ, List, [], ◌∷◌, ◌++◌, length, map, bytes_eq, nat_le, nat_lt, Result, Ok, Err, if◌then◌else◌}
use Rattle.record_reader.specs.declared.faults.Kind.{Kind}
use Rattle.record_reader.specs.declared.faults.Kind.TheVariants.{FieldCount, GroupTooMany}
use Rattle.record_reader.specs.declared.faults.LayoutFault.{LayoutFault}
use Rattle.record_reader.specs.declared.missing.Missing.{Missing}
use Rattle.record_reader.specs.declared.picks.Picks.{Picks}
use Rattle.record_reader.specs.declared.TheConstants.{MOST_ROWS}
use Rattle.record_reader.specs.declared.layouts.Shape.{Shape}
use Rattle.sample_reader.specs.Groups.{GroupData, first_appearances, number_among}
use Rattle.record_reader.specs.Layouts.{Layout, read_in}
use Rattle.weights.specs.Results.{and_then, with_value}
use Rattle.sample_reader.specs.Values.{is_missing_label, is_missing_value, label_in, value_in}

-- Each subject's label, and each subject's value in units of 10^-18.
pub record Subjects : Type 0 where
  pub labels : List (List ℕ)
  pub values : List ℤ

abbrev pub no_subjects : Subjects
no_subjects = record { labels = []; values = [] }

-- the different labels, in the order in which they first appear
abbrev pub different : List (List ℕ) → List (List ℕ)
different labels = first_appearances bytes_eq labels

-- the subjects with one label more, where there are then at most so many different ones
abbrev pub with_label : ℕ → Subjects → List ℕ → Result Subjects Kind
with_label most subjects label =
    let labels = subjects.labels ++ label ∷ [] in
    if nat_lt most (length (different labels)) then Err GroupTooMany
    else Ok (record { labels = labels; values = subjects.values })

-- the subjects with one value more
abbrev pub with_number : Subjects → ℤ → Subjects
with_number subjects value =
    record { labels = subjects.labels; values = subjects.values ++ value ∷ [] }

-- the subjects after a field: the first one of a row is a label, and the second a value
abbrev pub with_subject_field : ℕ → ℕ → List ℕ → Subjects → Result Subjects Kind
with_subject_field most place text subjects =
    if place == 0 then and_then (with_label most subjects) (label_in text)
    else with_value (with_number subjects) (value_in text)

-- whether a field of a row is missing, as a label or as a value
abbrev pub is_missing_field : ℕ → List ℕ → Bool
is_missing_field place text =
    if place == 0 then is_missing_label text else is_missing_value text

abbrev pub group_shape : Shape
group_shape = record { narrowest = 2; widest = 2; too_wide = FieldCount; most_rows = MOST_ROWS }

-- the layout with at most so many labels, and at least two
abbrev pub group_layout : ℕ → Layout Subjects
group_layout most = record {
  shape = group_shape;
  start = no_subjects;
  with_field = with_subject_field most;
  is_missing = is_missing_field;
  is_enough = λ subjects. nat_le 2 (length (different subjects.labels));
}

-- the subjects, each with the number of its label
abbrev pub grouped : Subjects → GroupData
grouped subjects = record {
  labels = different subjects.labels;
  members = map (number_among bytes_eq (different subjects.labels)) subjects.labels;
  values = subjects.values;
}

-- the groups of a file, of at most so many labels, or its first fault
abbrev pub groups_in : ℕ → Missing → Picks → List (List (List ℕ)) → Result GroupData LayoutFault
groups_in most missing picks rows =
    with_value grouped (read_in (group_layout most) missing picks rows)
