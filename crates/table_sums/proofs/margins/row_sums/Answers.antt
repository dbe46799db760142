use Rattle.std.proofs.Common.{◌≡◌, ◌∙◌, ◌++◌, ◌∷◌, [], map, ap, sym, arith}
use Rattle.std.specs.List.{range_with_len, sum_by}
use Rattle.std.proofs.lemmas.List.FromFn.{map-range_with_len_more}
use Rattle.table_reader.specs.Data.{table_data_of}
use Rattle.table_sums.specs.Tables.{cell}
use Rattle.table_sums.proofs.MarginSums.{row-read, within}
use Rattle.table_sums.proofs.margins.row_sums.Goals as goal

pub line_sum-requires-clause-inside : goal.line_sum-requires-clause-inside
line_sum-requires-clause-inside c k h =
    let there = within c.loop-i.i k c.args.table.now.rows c.args.table.now.columns c.loop-i-test.true h in
    rw c.as_slice.ensures (omega (arith, there, c.args.table.now.one_each))

pub loop-i-preserved : goal.loop-i-preserved
loop-i-preserved c =
    let here : c.line_sum.result ≡ sum_by (λ j. cell (table_data_of c.args.table.now) c.loop-i.i j) (range_with_len 0 c.args.table.now.columns) = c.line_sum.ensures ∙ rw c.as_slice.ensures (row-read (table_data_of c.args.table.now) c.loop-i.i) in
    c.in_ok-push.ensures.ok ∙ ap (λ xs. xs ++ c.line_sum.result ∷ []) c.loop-i.invariant
    ∙ ap (λ x. map (λ i. sum_by (λ j. cell (table_data_of c.args.table.now) i j) (range_with_len 0 c.args.table.now.columns)) (range_with_len 0 c.loop-i.i) ++ x ∷ []) here
    ∙ sym (map-range_with_len_more (λ i. sum_by (λ j. cell (table_data_of c.args.table.now) i j) (range_with_len 0 c.args.table.now.columns)) 0 c.loop-i.i c.loop-i.i (omega arith))
