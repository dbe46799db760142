use Rattle.std.proofs.Common.{◌≡◌, ◌<◌, length, take, get_or, ap, sym, ◌∙◌, arith}
use Rattle.std.proofs.lemmas.List.{get_or_read}
use Rattle.node_pool.specs.TableSteps.{key_at}
use Rattle.stage_network.specs.StageSteps.{Housed}
use Rattle.stage_network.proofs.Housing.{count-whole, home-fits, home-long, whole-room}
use Rattle.stage_network.proofs.nodes.StageNodes.room.Goals as goal

pub index-requires : goal.index-requires
index-requires g c =
    let p = c.self.inside in
    let low : c.args.i < length p.homes.items = omega (arith, c.requires, ap (λ (h : Housed). length h.nodes) c.self.view_is, count-whole _ _ _ _ _ c.self.invariant) in
    omega (arith, low, p.homes.ok.0)

pub key_at-requires : goal.key_at-requires
key_at-requires g c =
    let p = c.self.inside in
    let low : c.args.i < length p.homes.items = omega (arith, c.requires, ap (λ (h : Housed). length h.nodes) c.self.view_is, count-whole _ _ _ _ _ c.self.invariant) in
    rw c.deref.ensures.value (rw (← (sym (get_or_read p.homes.items c.args.i c.index.result.now low c.index.ensures 0))) (home-fits _ _ _ _ _ c.self.invariant c.args.i low))

pub returns : goal.returns
returns g c =
    let p = c.self.inside in
    let low : c.args.i < length p.homes.items = omega (arith, c.requires, ap (λ (h : Housed). length h.nodes) c.self.view_is, count-whole _ _ _ _ _ c.self.invariant) in
    let home : c.index.result.now ≡ get_or p.homes.items c.args.i 0 = get_or_read p.homes.items c.args.i c.index.result.now low c.index.ensures 0 in
    let is = c.key_at.ensures ∙ ap (λ r. key_at p.room_width r c.index.result.now) c.deref.ensures.value ∙ ap (key_at p.room_width p.rooms.items) home in
    record {
      room = λ d. is ∙ sym (whole-room _ _ _ _ _ c.self.invariant c.args.i d low) ∙ ap (λ (h : Housed). take h.room_width (get_or h.nodes c.args.i d).key) c.self.view_is;
      wide = ap length is ∙ home-long _ _ _ _ _ c.self.invariant c.args.i low ∙ ap (λ (h : Housed). h.room_width) c.self.view_is;
    }
