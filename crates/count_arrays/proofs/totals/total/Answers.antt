use Rattle.std.proofs.Common.{◌≡◌, ℕ, ◌+◌, ◌<◌, ◌≤◌, List, length, map, get_or, ap, sym, ◌∙◌, arith, rules}
use Rattle.std.specs.List.{sum}
use Rattle.std.proofs.lemmas.List.{length-map, take_all}
use Rattle.weights.specs.declared.TheConstants.{MAX}
use Rattle.node_pool.proofs.NodeLists.{number-read}
use Rattle.count_arrays.proofs.RowSums.{row_sum-one, sum-more, sum-take, weighted-row}
use Rattle.count_arrays.proofs.totals.total.Goals as goal

pub overflow_add-all : goal.overflow_add-all
overflow_add-all g c =
    let cells : List ℕ = map g.C.Count.number c.args.cells.now in
    let read : g.C.Count.number c.index-cells-i.result ≡ get_or cells c.loop-i.i 0 = number-read g.C.Count.number c.args.cells.now c.loop-i.i c.index-cells-i.result c.loop-i-test.true c.index-cells-i.is in
    let low : c.loop-i.i < length cells = rw (length-map c.args.cells.now g.C.Count.number) c.loop-i-test.true in
    let within : c.loop-i.all + c.value-all.result ≤ MAX = omega (arith, c.loop-i.invariant, c.value-all.ensures.value, read, sum-more cells c.loop-i.i low, sum-take cells (c.loop-i.i + 1), c.requires) in
    search rules

pub loop-i-preserved : goal.loop-i-preserved
loop-i-preserved g c =
    let cells : List ℕ = map g.C.Count.number c.args.cells.now in
    let read : g.C.Count.number c.index-cells-i.result ≡ get_or cells c.loop-i.i 0 = number-read g.C.Count.number c.args.cells.now c.loop-i.i c.index-cells-i.result c.loop-i-test.true c.index-cells-i.is in
    let low : c.loop-i.i < length cells = rw (length-map c.args.cells.now g.C.Count.number) c.loop-i-test.true in
    omega (arith, c.loop-i.invariant, c.value-all.ensures.value, read, sum-more cells c.loop-i.i low)

pub returns : goal.returns
returns g c = λ lowest stride.
    let cells : List ℕ = map g.C.Count.number c.args.cells.now in
    c.loop-i.invariant
    ∙ ap sum (take_all c.loop-i.i cells (rw (length-map c.args.cells.now g.C.Count.number) (omega (arith, c.loop-i-test.false))))
    ∙ sym (row_sum-one lowest stride cells)
    ∙ sym (weighted-row (λ k. 1) lowest stride cells)
