use Rattle.node_pool.proofs.NodeLists.{weight-low, weight-is}
use Rattle.node_pool.proofs.list.NodeList.weight.Goals as goal

pub index-requires : goal.index-requires
index-requires g c = rw c.self.inside.weights.ok.0 (weight-low g.C.Count.number c.self.inside.width c.self.inside.row.items _ c.args.i (rw (← c.self.view_is) at c.requires))

pub returns : goal.returns
returns g c = λ d.
    rw (← c.self.view_is) (weight-is g.C.Count.number c.self.inside.width c.self.inside.row.items _ c.args.i _ d (rw (← c.self.view_is) at c.requires) c.index.ensures)
