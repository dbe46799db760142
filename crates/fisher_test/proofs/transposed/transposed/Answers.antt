use Rattle.std.proofs.Common.{◌≡◌, ◌∙◌, ◌++◌, ap, sym, subst, arith, length}
use Rattle.std.specs.List.{flat_map, range_with_len}
use Rattle.table_reader.specs.Counts.{AreCounts}
use Rattle.table_reader.specs.TableLayout.{TableData}
use Rattle.table_sums.specs.Tables.{column_of}
use Rattle.fisher_test.specs.Transposed.{transposed_data}
use Rattle.fisher_test.proofs.TransposedCells.{flat_map-more, one-each, transposed-counts}
use Rattle.fisher_test.proofs.transposed.transposed.Goals as goal

pub loop-j-preserved : goal.loop-j-preserved
loop-j-preserved c =
    let t : TableData = c.args.table.now in
    c.in_ok-push_column.ensures
    ∙ ap (λ xs. xs ++ column_of t c.loop-j.j) c.loop-j.invariant
    ∙ sym (flat_map-more (column_of t) 0 c.loop-j.j c.loop-j.j (omega arith))

pub invariant_of-result : goal.invariant_of-result
invariant_of-result c =
    let t : TableData = c.args.table.now in
    let made = c.made-made.ensures.fitting in
    let all : c.loop-j.j ≡ t.columns = omega (arith, c.loop-j-test.false, c.loop-j.auto.j-end) in
    let cells : c.loop-j.cells ≡ (transposed_data t).cells = c.loop-j.invariant ∙ ap (λ n. flat_map (column_of t) (range_with_len 0 n)) all in
    record {
      two_rows = omega (arith, c.columns.ensures, made.two_columns);
      few_rows = omega (arith, c.columns.ensures, c.requires);
      two_columns = omega (arith, c.rows.ensures, made.two_rows);
      few_columns = omega (arith, c.rows.ensures, made.few_rows);
      one_each = rw (c.columns.ensures, c.rows.ensures) (ap length cells ∙ one-each t);
      in_range = subst AreCounts (sym cells) (transposed-counts t made.counts);
    }
