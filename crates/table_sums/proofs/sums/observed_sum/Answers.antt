use Rattle.std.proofs.Common.{length, get_or, rules, FitsSigned, ap, sym, ◌∙◌, arith}
use Rattle.std.specs.Prelude.{pos}
use mir.Syntax.{w128}
use Rattle.std.proofs.lemmas.Int.{to_z-of_z}
use Rattle.table_reader.specs.Data.{table_data_of}
use Rattle.table_sums.proofs.ColumnSums.{column-few, columns-split, length-column, next-of, none-of, score-small, sum-first, sum-last, sum-next}
use Rattle.table_sums.proofs.sums.observed_sum.Goals as goal

pub loop-j-init : goal.loop-j-init
loop-j-init c = record { room = search rules; sums = sum-first _ _ _ }

pub column_term-requires-clause-score : goal.column_term-requires-clause-score
column_term-requires-clause-score c =
    let v : FitsSigned w128 (get_or c.args.column_scores.now c.loop-j.j (pos 0)) = search rules in
    rw (to_z-of_z w128 (get_or c.args.column_scores.now c.loop-j.j (pos 0)) v) (score-small c.args.column_scores.now c.loop-j.j c.requires.columns)

pub column_term-requires-clause-few : goal.column_term-requires-clause-few
column_term-requires-clause-few c =
    rw c.read_column.ensures (column-few (table_data_of c.args.table.now) c.args.table.now.in_range c.args.table.now.few_rows c.loop-j.j)

pub loop-j-preserved : goal.loop-j-preserved
loop-j-preserved c =
    let v : FitsSigned w128 (get_or c.args.column_scores.now c.loop-j.j (pos 0)) = search rules in
    let s : FitsSigned w128 c.plus-sum.result = search rules in
    let r : FitsSigned w128 c.column_term.result = search rules in
    let term = rw (to_z-of_z w128 (get_or c.args.column_scores.now c.loop-j.j (pos 0)) v, c.read_column.ensures) at c.column_term.ensures.term in
    record {
      room = ap length c.read_column.ensures ∙ length-column (table_data_of c.args.table.now) c.loop-j.j ∙ sym c.requires.rows_level;
      sums = rw (to_z-of_z w128 c.plus-sum.result s, c.plus-sum.ensures, to_z-of_z w128 c.column_term.result r)
          (sum-next c.column_term.result (next-of c.args.column_scores.now c.loop-j.j (pos 0) c.loop-j-test.true)
          (columns-split (table_data_of c.args.table.now) c.loop-j.j (omega (arith, c.loop-j-test.true, c.requires.columns_level))) c.loop-j.invariant.sums c.column_term.ensures.small term);
    }

pub returns : goal.returns
returns c = sum-last (none-of c.args.column_scores.now c.loop-j.j c.loop-j-test.false) c.loop-j.invariant.sums
