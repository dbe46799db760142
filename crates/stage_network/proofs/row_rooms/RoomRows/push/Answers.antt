use Rattle.std.proofs.Common.{◌≡◌, ◌++◌, ◌∷◌, [], length, map, ap, sym, ◌∙◌}
use Rattle.std.specs.Prelude.{pos}
use Rattle.std.proofs.lemmas.Int.{to_z-of_z}
use mir.Syntax.{w128}
use Rattle.std.proofs.lemmas.List.{length-map}
use Rattle.stage_network.proofs.OpenKeys.{map-append}
use Rattle.stage_network.specs.declared.row_heads.Head.{Head}
use Rattle.stage_network.specs.RowSteps.{RowList}
use Rattle.stage_network.proofs.RowLists.{are-rows-push, rows-push}
use Rattle.stage_network.proofs.row_rooms.RoomRows.push.Goals as goal

pub invariant_of-self-2 : goal.invariant_of-self-2
invariant_of-self-2 g c =
    let p = c.self.inside in
    let num = g.C.Count.number in
    let h : Head = record { start = c.len-start.result; len = length c.args.cells.now; lowest = c.args.lowest; stride = c.args.stride } in
    let cells : map num c.extend_from_slice.new.self.items ≡ map num p.cells.items ++ map num c.args.cells.now = ap (map num) c.in_ok-extend_from_slice.ensures.items ∙ map-append num p.cells.items c.args.cells.now in
    let start : c.len-start.result ≡ length (map num p.cells.items) = c.len-start.ensures ∙ p.cells.ok.0 ∙ sym (length-map p.cells.items num) in
    let len : length c.args.cells.now ≡ length (map num c.args.cells.now) = sym (length-map c.args.cells.now num) in
    rw (c.in_ok-extend_from_slice-2.ensures.items, cells, ((rw (to_z-of_z w128 c.args.lowest c.ranges.lowest) at c.in-Ok.ensures.items) ∙ ap (λ xs. xs ++ h ∷ []) c.in_ok-reserve.ensures.items))
    (are-rows-push p.width p.rooms.items c.args.room.now (map num p.cells.items) (map num c.args.cells.now) p.heads.items h c.self.invariant (c.requires.wide ∙ sym (ap (λ (p : RowList). p.width) c.self.view_is)) start len)

pub returns-clause-rows : goal.returns-clause-rows
returns-clause-rows g c =
    let p = c.self.inside in
    let num = g.C.Count.number in
    let h : Head = record { start = c.len-start.result; len = length c.args.cells.now; lowest = c.args.lowest; stride = c.args.stride } in
    let wide : length c.args.room.now ≡ p.width = c.requires.wide ∙ sym (ap (λ (p : RowList). p.width) c.self.view_is) in
    let cells : map num c.extend_from_slice.new.self.items ≡ map num p.cells.items ++ map num c.args.cells.now = ap (map num) c.in_ok-extend_from_slice.ensures.items ∙ map-append num p.cells.items c.args.cells.now in
    let start : c.len-start.result ≡ length (map num p.cells.items) = c.len-start.ensures ∙ p.cells.ok.0 ∙ sym (length-map p.cells.items num) in
    rw (c.in_ok-extend_from_slice-2.ensures.items, cells, ((rw (to_z-of_z w128 c.args.lowest c.ranges.lowest) at c.in-Ok.ensures.items) ∙ ap (λ xs. xs ++ h ∷ []) c.in_ok-reserve.ensures.items))
    (rows-push p.width p.rooms.items c.args.room.now (map num p.cells.items) (map num c.args.cells.now) p.heads.items h c.self.invariant.long wide c.self.invariant.within start (sym (length-map c.args.cells.now num))
    ∙ ap (λ (q : RowList). q.rows ++ record { room = c.args.room.now; lowest = c.args.lowest; stride = pos c.args.stride; cells = map num c.args.cells.now } ∷ []) c.self.view_is)
