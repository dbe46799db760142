use Rattle.std.proofs.Common.{◌-◌, length}
use Rattle.node_pool.proofs.Spots.{IsAlong}
use Rattle.node_pool.proofs.table.free_slot.Given as goal

abbrev pub invariant-loop-slot : goal.invariant-loop-slot
invariant-loop-slot l = IsAlong l.buckets l.home l.slot l.steps

abbrev pub decreases-loop-slot : goal.decreases-loop-slot
decreases-loop-slot l = length l.buckets - l.steps
