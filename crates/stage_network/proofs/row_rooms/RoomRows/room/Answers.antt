use Rattle.std.proofs.Common.{length, map, ap, ◌∙◌}
use Rattle.stage_network.proofs.ArcLists.{choice-fits}
use Rattle.stage_network.specs.RowSteps.{Row}
use Rattle.stage_network.proofs.RowLists.{row-below, row-is, no_head}
use Rattle.stage_network.proofs.row_rooms.RoomRows.room.Goals as goal

pub room_at-requires : goal.room_at-requires
room_at-requires g c =
    let p = c.self.inside in
    rw (c.deref.ensures.value, c.self.invariant.long) (choice-fits p.width (length p.heads.items) c.args.i (row-below p.width p.rooms.items (map g.C.Count.number p.cells.items) p.heads.items c.args.self.now c.self.view_is c.args.i c.requires))

pub returns-clause-room : goal.returns-clause-room
returns-clause-room g c = λ d.
    let p = c.self.inside in
    (rw c.deref.ensures.value at c.room_at.ensures.room) ∙ ap (λ (r : Row). r.room) (row-is p.width p.rooms.items (map g.C.Count.number p.cells.items) p.heads.items c.args.self.now c.self.view_is c.args.i c.requires d no_head)
