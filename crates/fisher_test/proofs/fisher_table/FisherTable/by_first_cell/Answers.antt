use Rattle.fisher_test.proofs.fisher_table.FisherTable.by_first_cell.Goals as goal

pub returns : goal.returns
returns c = rw (c.row_sums-rows.ensures, c.column_sums.ensures, c.judge.ensures) at c.linear_stages.ensures
