use Rattle.std.proofs.Common.{◌≡◌, ◌≤◌, ◌-◌, length, take}
use Rattle.weights.specs.declared.tails.Tail.{Tail}
use Rattle.node_pool.specs.Nodes.{weighted}
use Rattle.node_pool.specs.PoolSteps.{nodes_of}
use Rattle.networks.specs.EachTail.{sum_for}
use Rattle.stage_network.specs.RowSteps.{all_nodes}
use Rattle.stage_network.specs.RowSweeps.{IsRoomRow}
use Rattle.stage_network.specs.SweepSteps.{staying, closed_at, counted}
use Rattle.stage_network.proofs.row_starts.settle_rows.Given as goal

-- the keys before this one are settled
abbrev pub invariant-loop-start : goal.invariant-loop-start
invariant-loop-start g l =
    let n = g.S.Stages.network l.stages in
    let done = take l.start (nodes_of n.width l.keys l.weights) in
    record {
      within : l.start ≤ length l.weights;
      few : l.target ≤ l.start;
      ready : IsRoomRow g.C.Count.number l.row;
      width : l.kept.width ≡ g.S.Roomed.room_width l.stages;
      nodes : all_nodes l.kept.rows ≡ staying n l.keep l.stage done;
      sum : (t : Tail) → (sum_for l.sums t).sum ≡ weighted (closed_at n l.keep t l.stage) done;
      opened : (t : Tail) → (sum_for l.sums t).opened ≡ counted n l.keep t l.stage done;
    }

abbrev pub decreases-loop-start : goal.decreases-loop-start
decreases-loop-start g l = length l.weights - l.start
