-- Grouped values in strata: each subject has a stratum, a group and a value.
use Rattle.std.specs.Prelude.{ℕ, ◌-◌, ◌==◌, Bool, ℤ, List, [], ◌∷◌, ◌++◌, length, map, bytes_eq, nat_le, Result, if◌then◌else◌}
use Rattle.record_reader.specs.declared.faults.Kind.{Kind}
use Rattle.record_reader.specs.declared.faults.Kind.TheVariants.{FieldCount}
use Rattle.record_reader.specs.declared.faults.LayoutFault.{LayoutFault}
use Rattle.record_reader.specs.declared.missing.Missing.{Missing}
use Rattle.record_reader.specs.declared.picks.Picks.{Picks}
use Rattle.record_reader.specs.declared.TheConstants.{MOST_ROWS}
use Rattle.record_reader.specs.declared.layouts.Shape.{Shape}
use Rattle.record_reader.specs.Layouts.{Layout, read_in}
use Rattle.weights.specs.Results.{with_value}
use Rattle.sample_reader.specs.GroupLayout.{Subjects, different, is_missing_field, no_subjects, with_subject_field}
use Rattle.sample_reader.specs.Groups.{number_among}
use Rattle.sample_reader.specs.Values.{is_missing_label, label_in}

-- The labels of the strata and those of the groups, both in the order in which they first appear,
-- the number of each subject's stratum and that of its group, both from 0, and each subject's value
-- in units of 10^-18.
pub record StrataGroupData : Type 0 where
  pub strata : List (List ℕ)
  pub labels : List (List ℕ)
  pub places : List ℕ
  pub members : List ℕ
  pub values : List ℤ

-- The label of each subject's stratum, and what is known of it as one of a group.
pub record StrataSubjects : Type 0 where
  pub strata : List (List ℕ)
  pub subjects : Subjects

abbrev pub no_strata : StrataSubjects
no_strata = record { strata = []; subjects = no_subjects }

-- the subjects with one stratum's label more
abbrev pub with_stratum : StrataSubjects → List ℕ → StrataSubjects
with_stratum so_far stratum =
    record { strata = so_far.strata ++ stratum ∷ []; subjects = so_far.subjects }

-- the strata with these subjects
abbrev pub with_subjects : StrataSubjects → Subjects → StrataSubjects
with_subjects so_far subjects = record { strata = so_far.strata; subjects = subjects }

-- the subjects after a field: the first one of a row is a stratum's label, and those behind it are
-- the fields of a subject of at most two groups
abbrev pub with_strata_field : ℕ → List ℕ → StrataSubjects → Result StrataSubjects Kind
with_strata_field place text so_far =
    if place == 0 then with_value (with_stratum so_far) (label_in text)
    else with_value (with_subjects so_far) (with_subject_field 2 (place - 1) text so_far.subjects)

-- whether a field of a row is missing: a label where it is empty, and a value as one of a group
abbrev pub is_missing_in_strata : ℕ → List ℕ → Bool
is_missing_in_strata place text =
    if place == 0 then is_missing_label text else is_missing_field (place - 1) text

abbrev pub strata_groups_shape : Shape
strata_groups_shape =
    record { narrowest = 3; widest = 3; too_wide = FieldCount; most_rows = MOST_ROWS }

abbrev pub strata_groups_layout : Layout StrataSubjects
strata_groups_layout = record {
  shape = strata_groups_shape;
  start = no_strata;
  with_field = with_strata_field;
  is_missing = is_missing_in_strata;
  is_enough = λ so_far. nat_le 2 (length (different so_far.subjects.labels));
}

-- the subjects, each with the numbers of its stratum and of its group
abbrev pub stratified : StrataSubjects → StrataGroupData
stratified so_far =
    let strata = different so_far.strata in
    let labels = different so_far.subjects.labels in record {
      strata = strata;
      labels = labels;
      places = map (number_among bytes_eq strata) so_far.strata;
      members = map (number_among bytes_eq labels) so_far.subjects.labels;
      values = so_far.subjects.values;
    }

-- the groups of a file in their strata, or its first fault
abbrev pub strata_groups_in : Missing → Picks → List (List (List ℕ))
    → Result StrataGroupData LayoutFault
strata_groups_in missing picks rows =
    with_value stratified (read_in strata_groups_layout missing picks rows)
