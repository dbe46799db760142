use Rattle.std.proofs.Common.{map, ap, ◌∙◌, arith}
use Rattle.std.specs.Prelude.{pos}
use Rattle.stage_network.specs.declared.row_heads.Head.{Head}
use Rattle.stage_network.specs.RowSteps.{Row}
use Rattle.stage_network.proofs.RowLists.{row-below, row-is}
use Rattle.stage_network.proofs.row_rooms.RoomRows.stride.Goals as goal

pub index-requires : goal.index-requires
index-requires g c =
    let p = c.self.inside in
    omega (arith, row-below p.width p.rooms.items (map g.C.Count.number p.cells.items) p.heads.items c.args.self.now c.self.view_is c.args.i c.requires, p.heads.ok.0)

pub returns : goal.returns
returns g c = λ d.
    let p = c.self.inside in
    ap (λ (h : Head). pos h.stride) c.index.ensures ∙ ap (λ (r : Row). r.stride) (row-is p.width p.rooms.items (map g.C.Count.number p.cells.items) p.heads.items c.args.self.now c.self.view_is c.args.i c.requires d c.index.result.now)
