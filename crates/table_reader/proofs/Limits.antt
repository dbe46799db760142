-- The limits that definitions cite.
use Rattle.std.proofs.Common.{◌≡◌, refl}
use Rattle.table_reader.specs.declared.TheConstants.{MOST_COUNT, MOST_TABLE_COLUMNS, MOST_TABLE_ROWS}

most_count : MOST_COUNT ≡ 1000000
most_count = refl

most_table_rows : MOST_TABLE_ROWS ≡ 8
most_table_rows = refl

most_table_columns : MOST_TABLE_COLUMNS ≡ 64
most_table_columns = refl
