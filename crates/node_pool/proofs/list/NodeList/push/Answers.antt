use Rattle.std.proofs.lemmas.List.{map_push}
use Rattle.node_pool.proofs.NodeLists.{row-more, nodes-more}
use Rattle.node_pool.proofs.list.NodeList.push.Goals as goal

pub invariant_of-self-2 : goal.invariant_of-self-2
invariant_of-self-2 g c =
    rw (c.push_within.ensures.items, c.append_within.ensures.items, c.reserve.ensures.items, c.reserve-2.ensures.items, map_push g.C.Count.number c.self.inside.weights.items c.args.weight)
    (row-more c.self.invariant c.args.key.now (g.C.Count.number c.args.weight) (rw (← c.self.view_is) at c.requires))

pub returns-clause-ok : goal.returns-clause-ok
returns-clause-ok g c =
    rw (← c.self.view_is, c.push_within.ensures.items, c.append_within.ensures.items, c.reserve.ensures.items, c.reserve-2.ensures.items, map_push g.C.Count.number c.self.inside.weights.items c.args.weight)
    (nodes-more c.self.invariant c.args.key.now (g.C.Count.number c.args.weight) (rw (← c.self.view_is) at c.requires))
