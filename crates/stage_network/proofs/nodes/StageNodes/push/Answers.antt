use Rattle.std.proofs.Common.{◌<◌, ◌-◌, ◌++◌, ◌∷◌, [], ap, ◌∙◌, arith}
use Rattle.node_pool.specs.Nodes.{node}
use Rattle.stage_network.specs.StageSteps.{Housed}
use Rattle.stage_network.proofs.Housing.{pushed-whole, pushed-housed}
use Rattle.stage_network.proofs.nodes.StageNodes.push.Goals as goal

pub invariant_of-self-2 : goal.invariant_of-self-2
invariant_of-self-2 g c =
    let p = c.self.inside in
    let low : p.count - 1 < p.count = omega (arith, c.requires.named, ap (λ (h : Housed). h.rooms) c.self.view_is) in
    rw (c.push_within.ensures.items, c.reserve.ensures.items) (pushed-housed _ _ _ _ _ c.self.invariant (p.count - 1) (node c.args.partial.now (g.C.Count.number c.args.weight)) c.push.new.self c.in_ok-push.ensures.ok low)

pub returns-clause-nodes : goal.returns-clause-nodes
returns-clause-nodes g c =
    rw (c.push_within.ensures.items, c.reserve.ensures.items, c.in_ok-push.ensures.ok) (pushed-whole _ _ _ _ _ c.self.invariant (c.self.inside.count - 1) (node c.args.partial.now (g.C.Count.number c.args.weight))
    ∙ ap (λ (h : Housed). h.nodes ++ node (h.room ++ c.args.partial.now) (g.C.Count.number c.args.weight) ∷ []) c.self.view_is)
