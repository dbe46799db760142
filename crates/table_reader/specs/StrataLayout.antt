-- The layout of strata: in each row a name, which is not read, and the four counts of a table of
-- two rows and two columns.
use Rattle.std.specs.Prelude.{ℕ, ◌==◌, false, List, [], ◌∷◌, ◌++◌, length, nat_lt, Result, Ok, if◌then◌else◌}
use Rattle.record_reader.specs.declared.faults.Kind.{Kind}
use Rattle.record_reader.specs.declared.faults.Kind.TheVariants.{FieldCount}
use Rattle.record_reader.specs.declared.faults.LayoutFault.{LayoutFault}
use Rattle.record_reader.specs.declared.layouts.Shape.{Shape}
use Rattle.record_reader.specs.declared.missing.Missing.TheVariants.{Refuse}
use Rattle.record_reader.specs.declared.picks.Picks.{Picks}
use Rattle.record_reader.specs.declared.TheConstants.{MOST_ROWS}
use Rattle.record_reader.specs.Layouts.{Layout, read_in}
use Rattle.weights.specs.Results.{with_value}
use Rattle.table_reader.specs.Counts.{count_in}

-- the counts of strata after a field: the first one of a row is a name, and each other one a count
abbrev pub with_stratum_field : ℕ → List ℕ → List ℕ → Result (List ℕ) Kind
with_stratum_field place text cells =
    if place == 0 then Ok cells else with_value (λ count. cells ++ count ∷ []) (count_in text)

abbrev pub strata_shape : Shape
strata_shape = record { narrowest = 5; widest = 5; too_wide = FieldCount; most_rows = MOST_ROWS }

-- the layout of strata; no field is missing
abbrev pub strata_layout : Layout (List ℕ)
strata_layout = record {
  shape = strata_shape;
  start = [];
  with_field = with_stratum_field;
  is_missing = λ place text. false;
  is_enough = λ cells. nat_lt 0 (length cells);
}

-- the strata of a file, or its first fault: the counts a, b, c and d of each stratum, whose table
-- has the row of a and b and the row of c and d
abbrev pub strata_in : Picks → List (List (List ℕ)) → Result (List ℕ) LayoutFault
strata_in = read_in strata_layout Refuse
