use Rattle.std.proofs.Common.{◌≡◌, ◌∙◌, ◌++◌, ◌∷◌, [], map, ap, sym, arith}
use Rattle.std.specs.List.{range_with_len, sum_by}
use Rattle.std.proofs.lemmas.List.FromFn.{map-range_with_len_more}
use Rattle.table_reader.specs.Data.{table_data_of}
use Rattle.table_sums.specs.Tables.{cell}
use Rattle.table_sums.proofs.MarginSums.{column-read, within}
use Rattle.table_sums.proofs.margins.column_sums.Goals as goal

pub line_sum-requires-clause-inside : goal.line_sum-requires-clause-inside
line_sum-requires-clause-inside c k h =
    let there = within k c.loop-j.j c.args.table.now.rows c.args.table.now.columns h c.loop-j-test.true in
    rw c.as_slice.ensures (omega (arith, there, c.args.table.now.one_each))

pub loop-j-preserved : goal.loop-j-preserved
loop-j-preserved c =
    let here : c.line_sum.result ≡ sum_by (λ i. cell (table_data_of c.args.table.now) i c.loop-j.j) (range_with_len 0 c.args.table.now.rows) = c.line_sum.ensures ∙ rw c.as_slice.ensures (column-read (table_data_of c.args.table.now) c.loop-j.j) in
    c.in_ok-push.ensures.ok ∙ ap (λ xs. xs ++ c.line_sum.result ∷ []) c.loop-j.invariant
    ∙ ap (λ x. map (λ j. sum_by (λ i. cell (table_data_of c.args.table.now) i j) (range_with_len 0 c.args.table.now.rows)) (range_with_len 0 c.loop-j.j) ++ x ∷ []) here
    ∙ sym (map-range_with_len_more (λ j. sum_by (λ i. cell (table_data_of c.args.table.now) i j) (range_with_len 0 c.args.table.now.rows)) 0 c.loop-j.j c.loop-j.j (omega arith))
