use Rattle.std.proofs.Common.{◌≡◌, ℕ, List, length, map, get_or, sym, ◌∙◌, arith}
use Rattle.node_pool.proofs.NodeLists.{number-read}
use Rattle.count_arrays.proofs.RowNodes.{none-more, row-front}
use Rattle.count_arrays.proofs.rows.first_full.Goals as goal

pub returns-then-value-ne0-clause-empty : goal.returns-then-value-ne0-clause-empty
returns-then-value-ne0-clause-empty g c = λ lowest stride. row-front lowest stride (map g.C.Count.number c.args.cells.now) c.loop-i.i c.loop-i.invariant

pub loop-i-preserved : goal.loop-i-preserved
loop-i-preserved g c =
    let cells : List ℕ = map g.C.Count.number c.args.cells.now in
    let here : get_or cells c.loop-i.i 0 ≡ 0 = sym (number-read g.C.Count.number c.args.cells.now c.loop-i.i c.index-cells-i.result c.loop-i-test.true c.index-cells-i.is) ∙ sym c.value.ensures.value ∙ c.if-value-ne0.false in
    none-more cells c.loop-i.i c.loop-i.invariant here

pub returns-clause-empty : goal.returns-clause-empty
returns-clause-empty g c = λ lowest stride. row-front lowest stride (map g.C.Count.number c.args.cells.now) (length c.args.cells.now) (λ j h. c.loop-i.invariant j (omega (arith, h, c.loop-i-test.false)))
