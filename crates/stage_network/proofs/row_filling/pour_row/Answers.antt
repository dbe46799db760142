use Rattle.std.proofs.Common.{◌≡◌, ◌+◌, ◌*◌, map, get_or, ap, ◌∙◌, arith, rules, FitsSigned}
use Rattle.std.specs.Prelude.{pos, ◌+ℤ◌}
use Rattle.std.proofs.lemmas.Int.{to_z-of_z}
use mir.Syntax.{w128}
use Rattle.node_pool.specs.Nodes.{weighted}
use Rattle.count_arrays.specs.Rows.{row_nodes, stepped}
use Rattle.stage_network.specs.RowSteps.{moved}
use Rattle.stage_network.proofs.Shifted.{row-weight}
use Rattle.stage_network.proofs.Spans.{no_row}
use Rattle.stage_network.proofs.row_filling.pour_row.Goals as goal

pub pour-requires-clause-limit : goal.pour-requires-clause-limit
pour-requires-clause-limit g c =
    let row = get_or c.args.rows.now.rows c.args.shift.row no_row in
    rw (c.cells-from.ensures no_row) (rw (row-weight c.args.lowest (pos c.args.stride) (map g.C.Count.number c.args.into.now), row-weight (row.lowest +ℤ c.args.shift.step) row.stride row.cells) at ((c.requires.light no_row).limit))

pub pour-requires-clause-fits : goal.pour-requires-clause-fits
pour-requires-clause-fits g c =
    let row = get_or c.args.rows.now.rows c.args.shift.row no_row in
    rw (c.cells-from.ensures no_row, ← row-weight (row.lowest +ℤ c.args.shift.step) row.stride row.cells) (omega (arith, (c.requires.light no_row).fits))

pub returns-clause-told : goal.returns-clause-told
returns-clause-told g c = λ d f.
    let num = g.C.Count.number in
    let row = get_or c.args.rows.now.rows c.args.shift.row d in
    let step = c.args.shift.step in
    let L = c.args.lowest in
    let S = pos c.args.stride in
    let F = row.lowest +ℤ step in
    let xs = map num c.cells-from.result.now in
    let fa : FitsSigned w128 c.lowest.result = search rules in
    let fb : FitsSigned w128 step = search rules in
    let fc : FitsSigned w128 c.in_ok-first.first = search rules in
    let first_is : stepped L S c.in-Some.place ≡ F = (rw (to_z-of_z w128 L c.ranges.lowest, to_z-of_z w128 c.in_ok-first.first fc) at c.in-Some.ensures) ∙ (rw (to_z-of_z w128 c.lowest.result fa, to_z-of_z w128 step fb) at c.in_ok-first.ensures) ∙ ap (λ z. z +ℤ step) (c.lowest.ensures d) in
    let from_is : row_nodes (stepped L S c.in-Some.place) (stepped (pos 0) S c.in-Some-cells_apart.every) xs ≡ moved row step =
    ap (λ z. row_nodes z (stepped (pos 0) S c.in-Some-cells_apart.every) xs) first_is ∙ ap (λ z. row_nodes F z xs) c.in-Some-cells_apart.ensures ∙ c.stride_for.ensures F ∙ ap (λ z. row_nodes F z xs) (c.stride.ensures d) ∙ ap (row_nodes F row.stride) (c.cells-from.ensures d) in
    c.pour.ensures.told f L S ∙ ap (λ ns. weighted f (row_nodes L S (map num c.args.into.now)) + weighted f ns * c.args.weight) from_is
