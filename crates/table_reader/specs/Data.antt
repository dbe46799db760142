-- What tables stand for.
use Rattle.table_reader.specs.TableLayout.{TableData}
use Rattle.table_reader.specs.declared.tables.Table.{Table}

abbrev pub table_data_of : Table → TableData
table_data_of table =
    record { rows = table.rows; columns = table.columns; cells = table.cells }
