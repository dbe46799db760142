use Rattle.std.proofs.Common.{◌∙◌, refl, arith}
use Rattle.table_reader.specs.Data.{table_data_of}
use Rattle.table_reader.specs.TableLayout.{TableData}
use Rattle.table_sums.proofs.MarginSums.{table-few, table-of}
use Rattle.fisher_test.proofs.FisherTests.{not-wide, total-wide}
use Rattle.fisher_test.proofs.fisher_table.FisherTable.prepare.Goals as goal

pub multinomial-requires : goal.multinomial-requires
multinomial-requires c = rw (c.as_slice.ensures ∙ c.in_ok-margins.ensures.rows) (omega (arith, table-few c.args.table.now))

pub returns-in_default : goal.returns-in_default
returns-in_default c =
    let t : TableData = table_data_of c.args.table.now in
    total-wide t (rw (c.as_slice.ensures ∙ c.in_ok-margins.ensures.rows) at c.in_default.ensures)

pub returns : goal.returns
returns c =
    let t : TableData = table_data_of c.args.table.now in
    let total = rw (c.as_slice.ensures ∙ c.in_ok-margins.ensures.rows) at c.in-Some.ensures in
    (rw c.in_ok-cells.ensures refl, not-wide t (table-of c.args.table.now total.0))
