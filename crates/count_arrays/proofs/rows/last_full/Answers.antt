use Rattle.std.proofs.Common.{◌≡◌, ℕ, ◌-◌, ◌<◌, List, length, map, get_or, sym, ◌∙◌, arith}
use Rattle.node_pool.proofs.NodeLists.{number-read}
use Rattle.count_arrays.proofs.RowNodes.{none-before, row-back}
use Rattle.count_arrays.proofs.rows.last_full.Goals as goal

pub loop-end-preserved : goal.loop-end-preserved
loop-end-preserved g c =
    let cells : List ℕ = map g.C.Count.number c.args.cells.now in
    let low : c.loop-end.end - 1 < length c.args.cells.now = omega (arith, c.loop-end-test.true, c.loop-end.invariant.within) in
    let here : get_or cells (c.loop-end.end - 1) 0 ≡ 0 = sym (number-read g.C.Count.number c.args.cells.now (c.loop-end.end - 1) c.index-cells-end.result low c.index-cells-end.is) ∙ sym c.value.ensures.value ∙ c.if-value-eq0.true in
    record {
      within = omega (arith, c.loop-end.invariant.within);
      none = none-before cells c.loop-end.end c.loop-end.invariant.none here;
    }

pub returns-else-value-eq0-clause-empty : goal.returns-else-value-eq0-clause-empty
returns-else-value-eq0-clause-empty g c = λ lowest stride. row-back lowest stride (map g.C.Count.number c.args.cells.now) c.loop-end.end c.loop-end.invariant.none

pub returns-after-loop-end-clause-empty : goal.returns-after-loop-end-clause-empty
returns-after-loop-end-clause-empty g c = λ lowest stride. row-back lowest stride (map g.C.Count.number c.args.cells.now) c.loop-end.end c.loop-end.invariant.none
