use Rattle.std.proofs.Common.{◌∙◌, length, ap}
use Rattle.node_pool.proofs.NodeLists.{key-fits, key-is, key-wide}
use Rattle.node_pool.proofs.list.NodeList.key.Goals as goal

pub key_at-requires : goal.key_at-requires
key_at-requires g c = rw c.deref.ensures.value (key-fits c.self.invariant c.args.i (rw (← c.self.view_is) at c.requires))

pub returns-clause-key : goal.returns-clause-key
returns-clause-key g c = λ d.
    rw (← c.self.view_is) ((rw c.deref.ensures.value at c.key_at.ensures) ∙ key-is c.self.invariant c.args.i d (rw (← c.self.view_is) at c.requires))

pub returns-clause-wide : goal.returns-clause-wide
returns-clause-wide g c =
    rw (← c.self.view_is) (ap length (rw c.deref.ensures.value at c.key_at.ensures) ∙ key-wide c.self.invariant c.args.i (rw (← c.self.view_is) at c.requires))
