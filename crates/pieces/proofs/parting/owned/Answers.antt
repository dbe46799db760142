use Rattle.std.proofs.Common.{◌≤◌, List, length, take, ap, ◌∙◌, arith, refl}
use Rattle.std.specs.Prelude.{slice_index_or}
use Rattle.std.proofs.lemmas.List.{take_all}
use Rattle.node_pool.specs.Nodes.{Node}
use Rattle.node_pool.specs.PoolSteps.{nodes_of}
use Rattle.node_pool.proofs.NodeLists.{length-nodes}
use Rattle.pieces.specs.Cuts.{owned_nodes}
use Rattle.pieces.proofs.Owned.{owned-step}
use Rattle.pieces.proofs.parting.owned.Goals as goal

pub loop-i-preserved : goal.loop-i-preserved
loop-i-preserved c =
    owned-step c.args.width c.args.keys.now c.args.weights.now c.args.owners.now c.args.part c.loop-i.i c.loop-i.flat.keys.items c.push_where.new.self.keys.items c.key_at.result.now c.loop-i.flat.weights.items c.push_where.new.self.weights.items (slice_index_or c.args.weights.now c.loop-i.i 0) _ c.loop-i-test.true c.requires.each c.requires.long refl c.key_at.ensures refl c.in_ok-push_where.ensures.keys c.in_ok-push_where.ensures.weights c.loop-i.invariant

pub returns-clause-nodes : goal.returns-clause-nodes
returns-clause-nodes c =
    let all : List Node = nodes_of c.args.width c.args.keys.now c.args.weights.now in
    let last : length all ≤ c.loop-i.i = omega (arith, c.loop-i-test.false, length-nodes c.args.width c.args.keys.now c.args.weights.now) in
    let last' : length c.args.owners.now ≤ c.loop-i.i = omega (arith, c.loop-i-test.false, c.requires.each) in
    c.loop-i.invariant.nodes ∙ ap (λ ns. owned_nodes ns (take c.loop-i.i c.args.owners.now) c.args.part) (take_all c.loop-i.i all last) ∙ ap (λ os. owned_nodes all os c.args.part) (take_all c.loop-i.i c.args.owners.now last')
