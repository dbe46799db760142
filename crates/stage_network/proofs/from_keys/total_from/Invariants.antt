use Rattle.std.proofs.Common.{◌≡◌, take}
use Rattle.node_pool.specs.Nodes.{weighted}
use Rattle.node_pool.specs.PoolSteps.{nodes_of}
use Rattle.networks.specs.Completions.{total_weight}
use Rattle.stage_network.proofs.from_keys.total_from.Given as goal

-- the total of the keys before this one
abbrev pub invariant-loop-i : goal.invariant-loop-i
invariant-loop-i g l =
    let n = g.S.Stages.network l.stages in
    l.total ≡ weighted (total_weight n l.stage) (take l.i (nodes_of n.width l.keys l.weights))
