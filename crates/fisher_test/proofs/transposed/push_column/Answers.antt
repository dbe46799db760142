use Rattle.std.proofs.Common.{◌≡◌, ◌∙◌, ◌++◌, ◌∷◌, ◌+◌, ◌*◌, ℕ, [], map, get_or, ap, sym, arith, append_assoc}
use Rattle.std.specs.List.{range_with_len}
use Rattle.std.proofs.lemmas.List.FromFn.{map-range_with_len_more}
use Rattle.table_reader.specs.TableLayout.{TableData}
use Rattle.table_sums.specs.Tables.{cell}
use Rattle.fisher_test.proofs.transposed.push_column.Goals as goal

pub loop-i-preserved : goal.loop-i-preserved
loop-i-preserved c =
    let t : TableData = c.args.table.now in
    let count : ℕ = get_or c.cells.result.now (c.loop-i.i * c.columns-columns.result + c.args.j) 0 in
    let here : count ≡ cell t c.loop-i.i c.args.j =
    ap (λ cells. get_or cells (c.loop-i.i * c.columns-columns.result + c.args.j) 0) c.cells.ensures
    ∙ ap (λ n. get_or t.cells (c.loop-i.i * n + c.args.j) 0) c.columns-columns.ensures in
    c.in_ok-push.ensures.ok
    ∙ ap (λ xs. xs ++ count ∷ []) c.loop-i.invariant
    ∙ append_assoc c.args.cells.now (map (λ i. cell t i c.args.j) (range_with_len 0 c.loop-i.i)) (count ∷ [])
    ∙ ap (λ x. c.args.cells.now ++ (map (λ i. cell t i c.args.j) (range_with_len 0 c.loop-i.i) ++ x ∷ [])) here
    ∙ ap (λ xs. c.args.cells.now ++ xs) (sym (map-range_with_len_more (λ i. cell t i c.args.j) 0 c.loop-i.i c.loop-i.i (omega arith)))
