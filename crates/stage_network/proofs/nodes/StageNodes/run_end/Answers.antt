use Rattle.std.proofs.Common.{◌≡◌, ◌≤◌, length, take, get_or, ap, sym, ◌∙◌, subst, arith}
use Rattle.node_pool.specs.TableSteps.{key_at}
use Rattle.stage_network.specs.StageSteps.{Housed, whole_nodes}
use Rattle.stage_network.proofs.Housing.{count-whole, whole-room}
use Rattle.stage_network.proofs.nodes.StageNodes.run_end.Goals as goal

pub same_until-requires : goal.same_until-requires
same_until-requires g c = rw c.deref.ensures.value (omega (arith, c.requires, ap (λ (h : Housed). length h.nodes) c.self.view_is, count-whole _ _ _ _ _ c.self.invariant))

pub returns-clause-within : goal.returns-clause-within
returns-clause-within g c = omega (arith, rw c.deref.ensures.value at c.same_until.ensures.within, ap (λ (h : Housed). length h.nodes) c.self.view_is, count-whole _ _ _ _ _ c.self.invariant)

pub returns-clause-run : goal.returns-clause-run
returns-clause-run g c = λ i d from below.
    let p = c.self.inside in
    let within : c.same_until.result ≤ length p.homes.items = rw c.deref.ensures.value at c.same_until.ensures.within in
    let same : get_or p.homes.items i 0 ≡ get_or p.homes.items c.args.start 0 = (rw c.deref.ensures.value at c.same_until.ensures.same) i from below in
    let is : take p.room_width (get_or (whole_nodes p.room_width p.rooms.items p.homes.items p.partials.nodes) i d).key ≡ take p.room_width (get_or (whole_nodes p.room_width p.rooms.items p.homes.items p.partials.nodes) c.args.start d).key =
    whole-room _ _ _ _ _ c.self.invariant i d (omega (arith, below, within)) ∙ ap (key_at p.room_width p.rooms.items) same ∙ sym (whole-room _ _ _ _ _ c.self.invariant c.args.start d (omega (arith, c.same_until.ensures.after, within))) in
    subst (λ (h : Housed). take h.room_width (get_or h.nodes i d).key ≡ take h.room_width (get_or h.nodes c.args.start d).key) c.self.view_is is
