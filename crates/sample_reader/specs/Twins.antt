-- The layout of a bivariate sample: in each row the two values of a subject.
use Rattle.std.specs.Prelude.{ℕ, ℤ, List, Result}
use Rattle.record_reader.specs.declared.faults.Kind.TheVariants.{FieldCount}
use Rattle.record_reader.specs.declared.faults.LayoutFault.{LayoutFault}
use Rattle.record_reader.specs.declared.missing.Missing.{Missing}
use Rattle.record_reader.specs.declared.picks.Picks.{Picks}
use Rattle.record_reader.specs.declared.layouts.Shape.{Shape}
use Rattle.record_reader.specs.Layouts.{Layout, read_in}
use Rattle.weights.specs.Results.{with_value}
use Rattle.sample_reader.specs.CellLayouts.{PairValues, pair_layout}
use Rattle.sample_reader.specs.declared.TheConstants.{MOST_TWINS}

-- Each row's first value and its second, in units of 10^-18.
pub record TwinData : Type 0 where
  pub first : List ℤ
  pub second : List ℤ

abbrev pub twin_shape : Shape
twin_shape =
    record { narrowest = 2; widest = 2; too_wide = FieldCount; most_rows = MOST_TWINS }

-- the layout of pairs, of which each has two values, and of which there are fewer
abbrev pub twin_layout : Layout PairValues
twin_layout = record {
  shape = twin_shape;
  start = pair_layout.start;
  with_field = pair_layout.with_field;
  is_missing = pair_layout.is_missing;
  is_enough = pair_layout.is_enough;
}

abbrev pub twins_of : PairValues → TwinData
twins_of pairs = record { first = pairs.first; second = pairs.second }

-- the bivariate sample of a file, or its first fault
abbrev pub twins_in : Missing → Picks → List (List (List ℕ)) → Result TwinData LayoutFault
twins_in missing picks rows =
    with_value twins_of (read_in twin_layout missing picks rows)
