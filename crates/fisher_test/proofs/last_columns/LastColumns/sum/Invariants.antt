use Rattle.std.proofs.Common.{◌≡◌, ◌+◌, ◌-◌, ◌≤◌, length, take}
use Rattle.weights.specs.declared.tails.Tail.TheVariants.{Two}
use Rattle.node_pool.specs.Nodes.{weighted}
use Rattle.networks.specs.Completions.{extreme_weight}
use Rattle.networks.specs.EachTail.{sum_for}
use Rattle.fisher_test.specs.LastSteps.{weight_network}
use Rattle.fisher_test.proofs.last_columns.LastColumns.sum.Given as goal

-- the nodes before this one
abbrev pub invariant-loop-start : goal.invariant-loop-start
invariant-loop-start g l = record {
  within : l.start ≤ length l.half.nodes.nodes;
  sums : l.sum ≡ (sum_for l.half.closed Two).sum + weighted (extreme_weight (weight_network l.self.rooms.rows.items l.self.rooms.columns.items l.self.judge) Two l.half.stage) (take l.start l.half.nodes.nodes);
}

abbrev pub decreases-loop-start : goal.decreases-loop-start
decreases-loop-start g l = length l.half.nodes.nodes - l.start
