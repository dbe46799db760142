-- The layouts of pairs and of blocks: each field is a value.
use Rattle.std.specs.Prelude.{ℕ, ◌-◌, ◌==◌, ℤ, ◌-ℤ◌, List, [], ◌∷◌, ◌++◌, length, nat_lt, Result, if◌then◌else◌}
use Rattle.record_reader.specs.declared.faults.Kind.{Kind}
use Rattle.record_reader.specs.declared.faults.Kind.TheVariants.{FieldCount, TooManyColumns}
use Rattle.record_reader.specs.declared.faults.LayoutFault.{LayoutFault}
use Rattle.record_reader.specs.declared.missing.Missing.{Missing}
use Rattle.record_reader.specs.declared.picks.Picks.{Picks}
use Rattle.record_reader.specs.declared.picks.Picks.TheVariants.{Natural, Listed}
use Rattle.record_reader.specs.declared.TheConstants.{MOST_ROWS}
use Rattle.record_reader.specs.declared.layouts.Shape.{Shape}
use Rattle.record_reader.specs.Layouts.{Layout, dropped_rows, read_in}
use Rattle.weights.specs.Results.{with_value}
use Rattle.sample_reader.specs.Values.{binary_in, is_missing_value, value_in}

-- ---- pairs

-- The first value of each pair, and the second one; there are no second ones where a row has a
-- single value.
pub record PairValues : Type 0 where
  pub first : List ℤ
  pub second : List ℤ

abbrev pub no_pairs : PairValues
no_pairs = record { first = []; second = [] }

-- the pairs with one value more, by its place in its row
abbrev pub with_pair_value : ℕ → PairValues → ℤ → PairValues
with_pair_value place pairs value =
    if place == 0 then record { first = pairs.first ++ value ∷ []; second = pairs.second }
    else record { first = pairs.first; second = pairs.second ++ value ∷ [] }

abbrev pub pair_shape : Shape
pair_shape = record { narrowest = 1; widest = 2; too_wide = FieldCount; most_rows = MOST_ROWS }

abbrev pub pair_layout : Layout PairValues
pair_layout = record {
  shape = pair_shape;
  start = no_pairs;
  with_field = λ place text pairs. with_value (with_pair_value place pairs) (value_in text);
  is_missing = λ place text. is_missing_value text;
  is_enough = λ pairs. nat_lt 0 (length pairs.first);
}

-- each item of the second list less the one of the first
abbrev pub second_less_first : List ℤ → List ℤ → List ℤ
second_less_first [] second = []
second_less_first (x ∷ first) [] = []
second_less_first (x ∷ first) (y ∷ second) = (y -ℤ x) ∷ second_less_first first second

-- the difference of each pair: its second value less its first, or its single value
abbrev pub differences_of : List ℤ → List ℤ → List ℤ
differences_of first second = if length second == 0 then first else second_less_first first second

abbrev pub differences : PairValues → List ℤ
differences pairs = differences_of pairs.first pairs.second

-- the differences of a file's pairs, or its first fault
abbrev pub differences_in : Missing → Picks → List (List (List ℕ)) → Result (List ℤ) LayoutFault
differences_in missing picks rows = with_value differences (read_in pair_layout missing picks rows)

-- ---- blocks

abbrev pub block_shape : Shape
block_shape = record { narrowest = 2; widest = 8; too_wide = TooManyColumns; most_rows = MOST_ROWS }

-- the layout in which each field is a cell that is read like this
abbrev pub block_layout : (List ℕ → Result ℤ Kind) → Layout (List ℤ)
block_layout cell_in = record {
  shape = block_shape;
  start = [];
  with_field = λ place text cells. with_value (λ cell. cells ++ cell ∷ []) (cell_in text);
  is_missing = λ place text. is_missing_value text;
  is_enough = λ cells. nat_lt 0 (length cells);
}

-- How many blocks and treatments there are, and the cells by blocks, each with one cell for each
-- treatment.
pub record BlockData : Type 0 where
  pub blocks : ℕ
  pub treatments : ℕ
  pub cells : List ℤ

-- how many fields are picked of each row of a file
abbrev pub width_in : Picks → List (List (List ℕ)) → ℕ
width_in (Listed fields) rows = length fields
width_in Natural [] = 0
width_in Natural (header ∷ rows) = length header

-- the cells of the rows below a header, of which so many are dropped
abbrev pub blocked : ℕ → Picks → List (List (List ℕ)) → List ℤ → BlockData
blocked dropped picks rows cells = record {
  blocks = length rows - 1 - dropped;
  treatments = width_in picks rows;
  cells = cells;
}

-- the blocks of a file whose cells are read like this, or its first fault
abbrev pub cells_in : (List ℕ → Result ℤ Kind) → Missing → Picks → List (List (List ℕ))
    → Result BlockData LayoutFault
cells_in cell_in missing picks rows =
    let layout = block_layout cell_in in
    with_value (blocked (dropped_rows layout missing picks rows) picks rows)
    (read_in layout missing picks rows)

abbrev pub blocks_in : Missing → Picks → List (List (List ℕ)) → Result BlockData LayoutFault
blocks_in = cells_in value_in

-- the blocks of a file whose cells are 0 or 1
abbrev pub binary_blocks_in : Missing → Picks → List (List (List ℕ))
    → Result BlockData LayoutFault
binary_blocks_in = cells_in binary_in
