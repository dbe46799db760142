use Rattle.std.proofs.Common.{◌≡◌, length, take}
use Rattle.table_reader.specs.Data.{table_data_of}
use Rattle.table_sums.specs.Tables.{column_of}
use Rattle.table_sums.proofs.margins.read_column.Given as goal

abbrev pub invariant-loop-i : goal.invariant-loop-i
invariant-loop-i l = record {
  long : length l.column ≡ l.table.rows;
  filled : take l.i l.column ≡ take l.i (column_of (table_data_of l.table) l.j);
}
