use Rattle.std.proofs.Common.{◌≡◌, ◌∙◌, get_or, sym, ap, arith, rules}
use Rattle.std.proofs.Common.{◌+◌, ◌*◌}
use Rattle.std.proofs.lemmas.List.FromFn.{get_or-map-range_with_len}
use Rattle.table_reader.specs.Data.{table_data_of}
use Rattle.table_sums.specs.Tables.{cell, column_of}
use Rattle.table_sums.proofs.ColumnSums.{length-column}
use Rattle.label_network.proofs.Rows.{grown, written}
use Rattle.table_sums.proofs.margins.read_column.Goals as goal

pub loop-i-preserved : goal.loop-i-preserved
loop-i-preserved c =
    let here : get_or c.as_slice-cells.result.now (c.loop-i.i * c.args.table.now.columns + c.args.j) 0 ≡ get_or (column_of (table_data_of c.args.table.now) c.args.j) c.loop-i.i 0 = ap (λ cells. get_or cells (c.loop-i.i * c.args.table.now.columns + c.args.j) 0) c.as_slice-cells.ensures ∙ sym (get_or-map-range_with_len (λ i. cell (table_data_of c.args.table.now) i c.args.j) 0 c.args.table.now.rows c.loop-i.i c.loop-i.i 0 (omega (arith, c.loop-i.invariant.long, c.loop-i-test.true, c.requires.room)) (omega arith)) in
    record {
      long = search rules;
      filled = grown c.loop-i.column (column_of (table_data_of c.args.table.now) c.args.j) c.loop-i.i (get_or c.as_slice-cells.result.now (c.loop-i.i * c.args.table.now.columns + c.args.j) 0) 0 (omega (arith, c.loop-i.invariant.long, c.loop-i-test.true)) (omega (arith, length-column (table_data_of c.args.table.now) c.args.j, c.loop-i.invariant.long, c.loop-i-test.true)) c.loop-i.invariant.filled here;
    }

pub returns : goal.returns
returns c = written c.loop-i.column (column_of (table_data_of c.args.table.now) c.args.j) c.loop-i.i (omega (arith, c.loop-i.invariant.long, c.loop-i-test.false, c.loop-i.auto.i-end)) (omega (arith, length-column (table_data_of c.args.table.now) c.args.j, c.loop-i.invariant.long, c.loop-i-test.false, c.loop-i.auto.i-end)) c.loop-i.invariant.filled
