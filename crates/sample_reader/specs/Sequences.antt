-- The layout of a sequence: in each row a label.
use Rattle.std.specs.Prelude.{ℕ, List, length, map, bytes_eq, nat_le, Result}
use Rattle.record_reader.specs.declared.faults.Kind.TheVariants.{FieldCount}
use Rattle.record_reader.specs.declared.faults.LayoutFault.{LayoutFault}
use Rattle.record_reader.specs.declared.missing.Missing.{Missing}
use Rattle.record_reader.specs.declared.picks.Picks.{Picks}
use Rattle.record_reader.specs.declared.TheConstants.{MOST_ROWS}
use Rattle.record_reader.specs.declared.layouts.Shape.{Shape}
use Rattle.record_reader.specs.Layouts.{Layout, read_in}
use Rattle.weights.specs.Results.{and_then, with_value}
use Rattle.sample_reader.specs.GroupLayout.{Subjects, different, no_subjects, with_label}
use Rattle.sample_reader.specs.Groups.{number_among}
use Rattle.sample_reader.specs.Values.{is_missing_label, label_in}

-- The labels in the order in which they first appear, and the number of each row's label, from 0.
pub record SequenceData : Type 0 where
  pub labels : List (List ℕ)
  pub members : List ℕ

abbrev pub sequence_shape : Shape
sequence_shape = record { narrowest = 1; widest = 1; too_wide = FieldCount; most_rows = MOST_ROWS }

-- each row is a subject without a value, and there are two different labels
abbrev pub sequence_layout : Layout Subjects
sequence_layout = record {
  shape = sequence_shape;
  start = no_subjects;
  with_field = λ place text subjects. and_then (with_label 2 subjects) (label_in text);
  is_missing = λ place text. is_missing_label text;
  is_enough = λ subjects. nat_le 2 (length (different subjects.labels));
}

-- the rows, each with the number of its label
abbrev pub numbered : Subjects → SequenceData
numbered subjects = record {
  labels = different subjects.labels;
  members = map (number_among bytes_eq (different subjects.labels)) subjects.labels;
}

-- the sequence of a file, or its first fault
abbrev pub sequence_in : Missing → Picks → List (List (List ℕ)) → Result SequenceData LayoutFault
sequence_in missing picks rows = with_value numbered (read_in sequence_layout missing picks rows)
