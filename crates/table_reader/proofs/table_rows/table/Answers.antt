use Rattle.std.proofs.Common.{sym, subst}
use Rattle.table_reader.specs.Kept.{HasShape}
use Rattle.table_reader.specs.TableLayout.{table_shape}
use Rattle.table_reader.proofs.WholeTable.{at_least_two, read_in-whole}
use Rattle.table_reader.proofs.table_rows.table.Goals as goal

pub into_table-requires : goal.into_table-requires
into_table-requires c =
    let shape = table_shape c.args.two_by_two in
    read_in-whole shape c.args.picks.now c.args.rows.now c.in_ok-read.read (at_least_two c.args.two_by_two) c.requires c.in_ok-read.ensures

pub returns-clause-shape : goal.returns-clause-shape
returns-clause-shape c =
    let shape = table_shape c.args.two_by_two in
    let whole = read_in-whole shape c.args.picks.now c.args.rows.now c.in_ok-read.read (at_least_two c.args.two_by_two) c.requires c.in_ok-read.ensures in
    subst (HasShape shape) (sym c.into_table.ensures) whole
