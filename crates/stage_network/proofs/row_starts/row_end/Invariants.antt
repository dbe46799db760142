use Rattle.std.proofs.Common.{◌≡◌, ◌<◌, ◌≤◌, ◌-◌, ℕ, take}
use Rattle.node_pool.specs.TableSteps.{key_at}
use Rattle.stage_network.proofs.row_starts.row_end.Given as goal

-- all from the first to before this one are of one room
abbrev pub invariant-loop-end : goal.invariant-loop-end
invariant-loop-end l = record {
  after : l.start < l.end;
  within : l.end ≤ l.count;
  same : (i : ℕ) → l.start ≤ i → i < l.end → take l.width (key_at l.key_width l.keys i) ≡ take l.width (key_at l.key_width l.keys l.start);
}

abbrev pub decreases-loop-end : goal.decreases-loop-end
decreases-loop-end l = l.count - l.end
