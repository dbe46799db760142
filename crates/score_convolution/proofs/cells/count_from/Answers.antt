use Rattle.std.proofs.Common.{◌≡◌, ◌<◌, ℕ, List, length, map, get_or, ◌∙◌, arith}
use Rattle.std.proofs.lemmas.List.{length-map}
use Rattle.node_pool.proofs.NodeLists.{number-read}
use Rattle.score_convolution.proofs.RowPairs.{drop-at, drop-past, drop-sum}
use Rattle.score_convolution.proofs.cells.count_from.Goals as goal

pub overflow_add-count : goal.overflow_add-count
overflow_add-count g c =
    let num = g.C.Count.number in
    let cells : List ℕ = map num c.args.cells.now in
    let i : ℕ = c.loop-i.i in
    let low : i < length cells = rw (length-map c.args.cells.now num) c.loop-i-test.true in
    let read : c.value-count.result ≡ get_or cells i 0 = c.value-count.ensures.value ∙ number-read num c.args.cells.now i c.index-cells-i.result c.loop-i-test.true c.index-cells-i.is in
    omega (arith, read, c.loop-i.invariant, drop-at i cells low, drop-sum c.args.place cells, c.requires)

pub loop-i-preserved : goal.loop-i-preserved
loop-i-preserved g c =
    let num = g.C.Count.number in
    let cells : List ℕ = map num c.args.cells.now in
    let i : ℕ = c.loop-i.i in
    let low : i < length cells = rw (length-map c.args.cells.now num) c.loop-i-test.true in
    let read : c.value-count.result ≡ get_or cells i 0 = c.value-count.ensures.value ∙ number-read num c.args.cells.now i c.index-cells-i.result c.loop-i-test.true c.index-cells-i.is in
    omega (arith, read, c.loop-i.invariant, drop-at i cells low)

pub returns : goal.returns
returns g c =
    let cells : List ℕ = map g.C.Count.number c.args.cells.now in
    omega (arith, c.loop-i.invariant, drop-past c.loop-i.i cells (omega (arith, c.loop-i-test.false, length-map c.args.cells.now g.C.Count.number)))
