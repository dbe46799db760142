use Rattle.std.proofs.Common.{◌≡◌, ◌+◌, ◌-◌, map, take, drop, ap, sym, ◌∙◌, arith}
use Rattle.std.proofs.lemmas.List.{take-map, drop-map}
use Rattle.stage_network.proofs.row_rooms.cells_at.Goals as goal

pub returns : goal.returns
returns g c =
    let e : (c.args.start + c.args.len) - c.args.start ≡ c.args.len = omega arith in
    ap (λ m. map g.C.Count.number (take m (drop c.args.start c.args.cells.now))) e
    ∙ sym (take-map g.C.Count.number c.args.len (drop c.args.start c.args.cells.now))
    ∙ ap (take c.args.len) (sym (drop-map g.C.Count.number c.args.start c.args.cells.now))
