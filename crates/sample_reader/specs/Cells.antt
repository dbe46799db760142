-- The two kinds of cells of blocks.
use Rattle.std.specs.Prelude.{ℕ, ℤ, List, Result}
use Rattle.record_reader.specs.declared.faults.Kind.{Kind}
use Rattle.sample_reader.specs.declared.block_rows.Cell.{Cell}
use Rattle.sample_reader.specs.declared.block_rows.Cell.TheVariants.{Value, Binary}
use Rattle.sample_reader.specs.Values.{binary_in, value_in}

-- the cell of a field
abbrev pub cell_in : Cell → List ℕ → Result ℤ Kind
cell_in Value = value_in
cell_in Binary = binary_in
