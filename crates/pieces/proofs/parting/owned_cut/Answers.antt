use Rattle.std.proofs.Common.{◌≡◌, ap, ◌∙◌}
use Rattle.node_pool.specs.Nodes.{weighted}
use Rattle.node_pool.specs.PoolSteps.{nodes_of}
use Rattle.networks.specs.Network.{Network}
use Rattle.networks.specs.Completions.{extreme_weight}
use Rattle.pieces.specs.Cuts.{counted_nodes, owned_nodes}
use Rattle.pieces.proofs.CutSums.{owned-part}
use Rattle.pieces.proofs.Owned.{owned-starts}
use Rattle.pieces.proofs.parting.owned_cut.Goals as goal

pub returns-clause-starts : goal.returns-clause-starts
returns-clause-starts g c =
    let n : Network = g.S.Stages.network c.args.stages.now in
    let from = c.args.from.now in
    let flat = c.in_ok-flat.flat in
    let nodes = rw (c.width.ensures, c.deref.ensures.value, c.deref-2.ensures.value) at c.in_ok-flat.ensures.nodes in
    let long = rw c.width.ensures at c.in_ok-flat.ensures.long in
    owned-starts n from.at from.keys.items flat.keys.items from.weights.items flat.weights.items c.args.owners.now c.args.part c.requires.cut.starts nodes long

pub returns-clause-sum : goal.returns-clause-sum
returns-clause-sum g c =
    let n : Network = g.S.Stages.network c.args.stages.now in
    let from = c.args.from.now in
    let flat = c.in_ok-flat.flat in
    let nodes : nodes_of n.width flat.keys.items flat.weights.items ≡ owned_nodes (counted_nodes n from) c.args.owners.now c.args.part = rw (c.width.ensures, c.deref.ensures.value, c.deref-2.ensures.value) at c.in_ok-flat.ensures.nodes in
    ap (weighted (extreme_weight n c.args.tail from.at)) nodes
    ∙ owned-part n c.args.tail from.at (counted_nodes n from) c.args.owners.now c.args.part c.requires.cut.within c.requires.cut.told c.requires.cut.starts.distinct
