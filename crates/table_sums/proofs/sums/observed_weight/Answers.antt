use Rattle.std.proofs.Common.{length, ap, rules, ◌∙◌, arith}
use Rattle.table_reader.specs.Data.{table_data_of}
use Rattle.table_sums.specs.Tables.{columns_in}
use Rattle.table_sums.proofs.ColumnSums.{column-few, columns-split, length-column, length-in, multiplied-first, none-of, weight-last, weight-next}
use Rattle.table_sums.proofs.sums.observed_weight.Goals as goal

pub loop-j-init : goal.loop-j-init
loop-j-init c = record { room = search rules; weights = multiplied-first _ }

pub ways_of-weight-requires-clause-small : goal.ways_of-weight-requires-clause-small
ways_of-weight-requires-clause-small c =
    rw c.read_column.ensures (omega (arith, column-few (table_data_of c.args.table.now) c.args.table.now.in_range c.args.table.now.few_rows c.loop-j.j))

pub ways_of-weight-requires-clause-fits : goal.ways_of-weight-requires-clause-fits
ways_of-weight-requires-clause-fits c = rw c.read_column.ensures (omega (arith, (weight-next (columns-split (table_data_of c.args.table.now) c.loop-j.j c.loop-j-test.true) c.loop-j.invariant.weights).factor_fits, c.requires))

pub overflow_mul-weight : goal.overflow_mul-weight
overflow_mul-weight c = rw (c.ways_of-weight.ensures, c.read_column.ensures) (omega (arith, (weight-next (columns-split (table_data_of c.args.table.now) c.loop-j.j c.loop-j-test.true) c.loop-j.invariant.weights).fits, c.requires))

pub loop-j-preserved : goal.loop-j-preserved
loop-j-preserved c = record {
  room = ap length c.read_column.ensures ∙ length-column (table_data_of c.args.table.now) c.loop-j.j;
  weights = rw (c.ways_of-weight.ensures, c.read_column.ensures) (weight-next (columns-split (table_data_of c.args.table.now) c.loop-j.j c.loop-j-test.true) c.loop-j.invariant.weights).next;
}

pub returns : goal.returns
returns c = weight-last (none-of (columns_in (table_data_of c.args.table.now)) c.loop-j.j (omega (arith, length-in (table_data_of c.args.table.now), c.loop-j-test.false, c.loop-j.auto.j-end))) c.loop-j.invariant.weights
