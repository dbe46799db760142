use Rattle.std.proofs.Common.{◌≡◌, ◌+◌, ◌-◌, ◌<◌, ℕ, List, length, map, drop, get_or, ap, ◌∙◌, arith}
use Rattle.std.specs.List.{sum}
use Rattle.std.proofs.lemmas.List.{length-map}
use Rattle.node_pool.proofs.NodeLists.{number-read}
use Rattle.score_convolution.proofs.RowPairs.{before-none, drop-at}
use Rattle.score_convolution.proofs.cells.count_before.Goals as goal

pub returns-then-place-cells : goal.returns-then-place-cells
returns-then-place-cells g c =
    let num = g.C.Count.number in
    let cells : List ℕ = map num c.args.cells.now in
    let i : ℕ = c.args.place - 1 in
    let low : i < length cells = omega (arith, length-map c.args.cells.now num, c.if-place-gt0.true, c.if-place-cells.true) in
    let on : i + 1 ≡ c.args.place = omega (arith, c.if-place-gt0.true) in
    let read : c.value.result ≡ get_or cells i 0 = c.value.ensures.value ∙ number-read num c.args.cells.now i c.index-cells-place.result (omega (arith, c.if-place-gt0.true, c.if-place-cells.true)) c.index-cells-place.is in
    omega (arith, read, drop-at i cells low, ap (λ n. sum (drop n cells)) on)

pub returns-else-place-gt0 : goal.returns-else-place-gt0
returns-else-place-gt0 g c = before-none c.args.place (map g.C.Count.number c.args.cells.now) (λ h. omega (arith, h, length-map c.args.cells.now g.C.Count.number))
