use Rattle.std.proofs.Common.{◌≡◌, ◌≤◌, ◌++◌, ◌-◌, ◌∷◌, [], List, ℕ, length, replicate, map, ap, sym, ◌∙◌, arith}
use Rattle.std.specs.Prelude.{pos}
use Rattle.std.specs.Vec.{vec_len}
use Rattle.std.proofs.lemmas.Int.{to_z-of_z}
use Rattle.std.proofs.lemmas.List.{length-map, take_all}
use mir.Syntax.{w128}
use Rattle.node_pool.specs.Nodes.{node}
use Rattle.count_arrays.specs.Rows.{row_nodes, stepped}
use Rattle.stage_network.proofs.OpenKeys.{map-append}
use Rattle.stage_network.proofs.RowLines.{map-replicate}
use Rattle.stage_network.proofs.RowStarts.{cells-pushed}
use Rattle.stage_network.proofs.row_starts.push_number.Goals as goal

pub returns : goal.returns
returns g c =
    let num = g.C.Count.number in
    let L = c.args.lowest in
    let S = pos c.args.stride in
    let items = c.args.cells.now.items in
    let place = c.in-Some.place in
    let m = place - length items in
    let old : List ℕ = map num items in
    let w = c.args.weight in
    let long : vec_len c.args.cells.now ≡ length items = c.args.cells.now.ok.0 in
    let low : length items ≤ place = omega (arith, long, c.len.ensures, c.if-place-len.false) in
    let same : length old ≡ length items = length-map items num in
    let there : stepped L S place ≡ c.args.number = rw (to_z-of_z w128 L c.ranges.lowest, to_z-of_z w128 c.args.number c.ranges.number) at c.in-Some.ensures in
    let filled : map num c.resize.new.self.items ≡ old ++ replicate m 0 =
    ap (map num) (c.in_ok-resize.ensures.items ∙ ap (λ xs. xs ++ replicate (place - vec_len c.args.cells.now) c.args.none) (take_all place items low) ∙ ap (λ k. items ++ replicate (place - k) c.args.none) long)
    ∙ map-append num items (replicate m c.args.none) ∙ ap (λ xs. old ++ xs) (map-replicate num m c.args.none c.requires.none) in
    let all : map num c.push.new.self.items ≡ (old ++ replicate (place - length old) 0) ++ w ∷ [] =
    ap (map num) c.in_ok-push.ensures.items ∙ map-append num c.resize.new.self.items (c.in-Some-of.cell ∷ [])
    ∙ ap (λ xs. xs ++ num c.in-Some-of.cell ∷ []) (filled ∙ ap (λ k. old ++ replicate (place - k) 0) (sym same))
    ∙ ap (λ k. (old ++ replicate (place - length old) 0) ++ k ∷ []) c.in-Some-of.ensures.1 in
    ap (row_nodes L S) all
    ∙ cells-pushed L S old place w (omega (arith, same, low)) c.requires.some
    ∙ ap (λ z. row_nodes L S old ++ node (z ∷ []) w ∷ []) there
