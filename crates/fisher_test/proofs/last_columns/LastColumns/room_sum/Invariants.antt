use Rattle.std.proofs.Common.{◌≡◌}
use Rattle.weights.specs.declared.tails.Tail.TheVariants.{Two}
use Rattle.node_pool.specs.Nodes.{weighted}
use Rattle.stage_network.specs.ArcSteps.{segment}
use Rattle.networks.specs.Completions.{extreme_weight}
use Rattle.fisher_test.specs.LastSteps.{weight_network}
use Rattle.fisher_test.proofs.last_columns.LastColumns.room_sum.Given as goal

-- the nodes before this one
abbrev pub invariant-loop-i : goal.invariant-loop-i
invariant-loop-i g l = l.sum ≡ weighted (extreme_weight (weight_network l.self.rooms.rows.items l.self.rooms.columns.items l.self.judge) Two l.stage) (segment l.start l.i l.nodes.nodes)
