use Rattle.std.proofs.Common.{◌≡◌, ◌-◌, ◌++◌, ◌∷◌, [], List, length, map, drop, ap, sym, ◌∙◌, arith, rules, to_z, of_z, append-nil}
use Rattle.std.specs.Prelude.{pos}
use Rattle.std.proofs.lemmas.Int.{to_z-of_z}
use Rattle.std.proofs.lemmas.List.{take_all, length-drop, drop-map}
use Rattle.std.proofs.lemmas.List.Concat.{flat_map-append}
use mir.Syntax.{w128}
use Rattle.count_arrays.specs.Rows.{row_nodes, stepped}
use Rattle.stage_network.specs.ArcSteps.{lift}
use Rattle.stage_network.specs.RowSteps.{Row, all_nodes, row_whole}
use Rattle.stage_network.proofs.row_filling.RoomRow.keep.Goals as goal

one-more : (rows rows' : List Row) (r : Row) → rows' ≡ rows ++ r ∷ [] → all_nodes rows' ≡ all_nodes rows ++ row_whole r
one-more rows rows' r e = ap all_nodes e ∙ flat_map-append row_whole rows (r ∷ []) ∙ ap (λ ns. all_nodes rows ++ ns) (append-nil (row_whole r))

pub returns-clause-nodes : goal.returns-clause-nodes
returns-clause-nodes g c =
    let num = g.C.Count.number in
    let was = c.args.self.now in
    let cells = c.as_slice-cells.result.now in
    let s = pos was.stride in
    let first = c.first_full-first.result in
    let z = c.in_ok-number.number in
    one-more c.args.kept.now.rows c.push.new.self.rows (record { room = c.args.room.now; lowest = to_z w128 (of_z w128 z); stride = s; cells = map num c.trimmed.result.now }) c.in_ok-push.ensures.rows
    ∙ ap (λ ns. all_nodes c.args.kept.now.rows ++ lift c.args.room.now ns)
    (ap (λ l. row_nodes l s (map num c.trimmed.result.now)) (to_z-of_z w128 z (search rules) ∙ (rw (to_z-of_z w128 was.lowest (search rules)) at c.in_ok-number.ensures))
    ∙ c.trimmed.ensures (stepped was.lowest s first) s
    ∙ ap (row_nodes (stepped was.lowest s first) s) (ap (map num) (take_all (length cells - first) (drop first cells) (omega (arith, length-drop first cells))) ∙ sym (drop-map num first cells))
    ∙ sym (c.first_full-first.ensures.empty was.lowest s)
    ∙ ap (λ xs. row_nodes was.lowest s (map num xs)) c.as_slice-cells.ensures.value)
