use Rattle.std.proofs.Common.{◌≡◌, ◌<◌, ◌≤◌, ◌-◌, ℕ, length, get_or}
use Rattle.stage_network.proofs.nodes.same_until.Given as goal

-- all from the first to before this one are the same
abbrev pub invariant-loop-end : goal.invariant-loop-end
invariant-loop-end l = record {
  after : l.start < l.end;
  within : l.end ≤ length l.homes;
  same : (i : ℕ) → l.start ≤ i → i < l.end → get_or l.homes i 0 ≡ get_or l.homes l.start 0;
}

abbrev pub decreases-loop-end : goal.decreases-loop-end
decreases-loop-end l = length l.homes - l.end
