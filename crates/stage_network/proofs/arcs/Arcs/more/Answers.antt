use Rattle.stage_network.proofs.ArcLists.{more-arcs}
use Rattle.stage_network.proofs.arcs.Arcs.more.Goals as goal

pub invariant_of-self-2 : goal.invariant_of-self-2
invariant_of-self-2 c =
    let p = c.self.inside in
    rw c.in_ok-push.ensures.items (more-arcs p.width p.choices.items p.links.items p.heads.items c.self.invariant)
