use Rattle.std.proofs.Common.{◌≢◌, ℕ, ◌-◌, ◌<◌, [], ◌∷◌, length, get_or}
use Rattle.node_pool.specs.PoolSteps.{keys_of}
use Rattle.node_pool.specs.TableSteps.{spot, key_at}
use Rattle.node_pool.proofs.Spots.{IsAlong}
use Rattle.node_pool.proofs.table.find_one.Given as goal

-- every slot passed was full, and held another key
abbrev pub invariant-loop-slot : goal.invariant-loop-slot
invariant-loop-slot l = record {
  along : IsAlong l.buckets l.home l.slot l.steps;
  missed : (e : ℕ) → e < l.steps → key_at 1 (keys_of 1 (length l.slots) l.cells) (get_or l.buckets (spot (length l.buckets) l.home e) 0 - 1) ≢ l.number ∷ [];
}

abbrev pub decreases-loop-slot : goal.decreases-loop-slot
decreases-loop-slot l = length l.buckets - l.steps
