use Rattle.std.proofs.Common.{length, map, take, drop, ap, ◌∙◌, arith}
use Rattle.std.proofs.lemmas.List.{length-map}
use Rattle.stage_network.specs.declared.row_heads.Head.{Head}
use Rattle.stage_network.specs.RowSteps.{Row}
use Rattle.stage_network.proofs.RowLists.{row-below, row-is, within-at}
use Rattle.stage_network.proofs.row_rooms.RoomRows.cells.Goals as goal

pub index-head-requires : goal.index-head-requires
index-head-requires g c =
    let p = c.self.inside in
    omega (arith, row-below p.width p.rooms.items (map g.C.Count.number p.cells.items) p.heads.items c.args.self.now c.self.view_is c.args.i c.requires, p.heads.ok.0)

pub cells_at-requires : goal.cells_at-requires
cells_at-requires g c =
    let p = c.self.inside in
    let within = within-at (length (map g.C.Count.number p.cells.items)) p.heads.items c.args.i c.index-head.result.now c.self.invariant.within (row-below p.width p.rooms.items (map g.C.Count.number p.cells.items) p.heads.items c.args.self.now c.self.view_is c.args.i c.requires) in
    omega (arith, within, ap (λ (h : Head). h.start) c.index-head.ensures, ap (λ (h : Head). h.len) c.index-head.ensures, length-map p.cells.items g.C.Count.number, ap length c.deref.ensures.value)

pub returns : goal.returns
returns g c = λ d.
    let p = c.self.inside in
    let h : Head = c.index-head.result.now in
    rw c.deref.ensures.value at c.cells_at.ensures
    ∙ ap (λ (h : Head). take h.len (drop h.start (map g.C.Count.number p.cells.items))) c.index-head.ensures
    ∙ ap (λ (r : Row). r.cells) (row-is p.width p.rooms.items (map g.C.Count.number p.cells.items) p.heads.items c.args.self.now c.self.view_is c.args.i c.requires d h)
