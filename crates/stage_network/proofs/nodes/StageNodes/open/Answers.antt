use Rattle.std.proofs.Common.{◌≡◌, ◌+◌, ap, sym, ◌∙◌, rules}
use Rattle.stage_network.specs.StageSteps.{Housed}
use Rattle.stage_network.proofs.Housing.{opened-whole, opened-housed, opened-room}
use Rattle.stage_network.proofs.nodes.StageNodes.open.Goals as goal

pub invariant_of-self-2 : goal.invariant_of-self-2
invariant_of-self-2 g c =
    let more : c.in-Some.count ≡ c.self.inside.count + 1 = search rules in
    rw (c.in_ok-extend_from_slice.ensures.items, more) (opened-housed _ _ _ _ _ c.self.invariant c.args.room.now (c.requires ∙ sym (ap (λ (h : Housed). h.room_width) c.self.view_is)))

pub returns-clause-nodes : goal.returns-clause-nodes
returns-clause-nodes g c = rw c.in_ok-extend_from_slice.ensures.items (opened-whole _ _ _ _ _ c.self.invariant c.args.room.now ∙ ap (λ (h : Housed). h.nodes) c.self.view_is)

pub returns-clause-room : goal.returns-clause-room
returns-clause-room g c =
    let more : c.in-Some.count ≡ c.self.inside.count + 1 = search rules in
    rw (c.in_ok-extend_from_slice.ensures.items, more) (opened-room _ _ _ _ _ c.self.invariant c.args.room.now (c.requires ∙ sym (ap (λ (h : Housed). h.room_width) c.self.view_is)))
