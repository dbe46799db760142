use Rattle.std.proofs.Common.{length, map, ap, sym, ◌∙◌}
use Rattle.stage_network.specs.RowSteps.{RowList}
use Rattle.stage_network.proofs.RowLists.{length-rows}
use Rattle.stage_network.proofs.row_rooms.RoomRows.len.Goals as goal

pub returns : goal.returns
returns g c =
    let p = c.self.inside in
    c.len.ensures ∙ p.heads.ok.0 ∙ sym (length-rows p.width p.rooms.items (map g.C.Count.number p.cells.items) p.heads.items) ∙ ap (λ (p : RowList). length p.rows) c.self.view_is
