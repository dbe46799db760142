use Rattle.std.proofs.Common.{◌≡◌, ◌≢◌, refl, ℕ, zero, suc, ◌+◌, ◌<◌, List, length, map, take, get_or, false, cond, ap, sym, ◌∙◌, arith}
use Rattle.std.specs.Prelude.{nat_eq}
use Rattle.std.proofs.lemmas.List.{length-map}
use Rattle.node_pool.proofs.NodeLists.{number-read}
use Rattle.count_arrays.specs.Rows.{row_nodes}
use Rattle.count_arrays.proofs.RowSums.{count-more}
use Rattle.count_arrays.proofs.totals.count_keys.Goals as goal
use Rattle.count_arrays.proofs.totals.count_keys.Goals.{then-value-ne0, else-value-ne0}

more : (all before count held cell : ℕ) → all ≡ before + cond (nat_eq cell 0) 0 1 → held ≡ before → cell ≢ 0 → count ≡ held + 1 → count ≡ all
more all before count held zero a b n e = absurd (n refl)
more all before count held (suc cell) a b n e =
    let one : nat_eq (suc cell) 0 ≡ false = grind arith in
    let all_is : all ≡ before + 1 = a ∙ ap (λ x. before + cond x 0 1) one in
    omega (arith, all_is, b, e)

same : (all before count held cell : ℕ) → all ≡ before + cond (nat_eq cell 0) 0 1 → held ≡ before → cell ≡ 0 → count ≡ held → count ≡ all
same all before count held cell a b n e =
    let none : all ≡ before + 0 = a ∙ ap (λ x. before + cond (nat_eq x 0) 0 1) n in
    omega (arith, none, b, e)

pub loop-cell-preserved : goal.loop-cell-preserved
loop-cell-preserved g c =
    let cells : List ℕ = map g.C.Count.number c.args.cells.now in
    let low : c.loop-cell.cell-index < length cells = rw (length-map c.args.cells.now g.C.Count.number) c.loop-cell-test.true in
    let value : c.value.result ≡ get_or cells c.loop-cell.cell-index 0 = c.value.ensures.value ∙ number-read g.C.Count.number c.args.cells.now c.loop-cell.cell-index c.cell-item.result c.loop-cell-test.true c.cell-item.is in
    elim c.if-value-ne0.branch [
      | then-value-ne0 w ↦ record {
        within = omega (arith, w.count-is, c.loop-cell.invariant.within);
        told = λ lowest stride. more (length (row_nodes lowest stride (take (c.loop-cell.cell-index + 1) cells))) (length (row_nodes lowest stride (take c.loop-cell.cell-index cells))) c.if-value-ne0.count c.loop-cell.count (get_or cells c.loop-cell.cell-index 0) (count-more lowest stride cells c.loop-cell.cell-index low) (c.loop-cell.invariant.told lowest stride) (λ e. w.if-value-ne0.true (value ∙ e)) w.count-is;
      }
      | else-value-ne0 w ↦ record {
        within = omega (arith, w.count-is, c.loop-cell.invariant.within);
        told = λ lowest stride. same (length (row_nodes lowest stride (take (c.loop-cell.cell-index + 1) cells))) (length (row_nodes lowest stride (take c.loop-cell.cell-index cells))) c.if-value-ne0.count c.loop-cell.count (get_or cells c.loop-cell.cell-index 0) (count-more lowest stride cells c.loop-cell.cell-index low) (c.loop-cell.invariant.told lowest stride) (sym value ∙ w.if-value-ne0.false) w.count-is;
      }
    ]
