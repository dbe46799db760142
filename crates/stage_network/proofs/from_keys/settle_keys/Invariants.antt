use Rattle.std.proofs.Common.{◌≡◌, take}
use Rattle.weights.specs.declared.tails.Tail.{Tail}
use Rattle.node_pool.specs.Nodes.{weighted}
use Rattle.node_pool.specs.PoolSteps.{nodes_of}
use Rattle.networks.specs.EachTail.{sum_for}
use Rattle.stage_network.specs.SweepSteps.{staying, closed_at, counted}
use Rattle.stage_network.proofs.from_keys.settle_keys.Given as goal

-- the keys before this one are settled
abbrev pub invariant-loop-i : goal.invariant-loop-i
invariant-loop-i g l =
    let n = g.S.Stages.network l.stages in
    let done = take l.i (nodes_of n.width l.keys l.weights) in
    record {
      nodes : l.kept.nodes ≡ staying n l.keep l.stage done;
      sum : (t : Tail) → (sum_for l.sums t).sum ≡ weighted (closed_at n l.keep t l.stage) done;
      opened : (t : Tail) → (sum_for l.sums t).opened ≡ counted n l.keep t l.stage done;
      pool : l.pool.width ≡ l.fn.pool.width;
      here : l.kept.room_width ≡ g.S.Roomed.room_width l.stages;
      deep : l.kept.width ≡ n.width;
    }
