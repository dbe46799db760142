use Rattle.std.proofs.Common.{◌<◌, ◌≤◌, ◌-◌, ◌∷◌, [], length, drop}
use Rattle.node_runs.specs.Runs.{loose_nodes}
use Rattle.node_runs.specs.RunSteps.{IsJoined}
use Rattle.node_runs.proofs.loose.joined.Given as goal

-- those before the place are joined
abbrev pub invariant-loop-place : goal.invariant-loop-place
invariant-loop-place g l = record {
  on : l.fn.place < l.place;
  within : l.place ≤ length l.leads;
  joined : IsJoined (loose_nodes g.C.Count.number (drop l.fn.place l.leads)) (l.lead.number ∷ []) (g.C.Count.number l.lead.weight) (loose_nodes g.C.Count.number (drop l.place l.leads));
}

abbrev pub decreases-loop-place : goal.decreases-loop-place
decreases-loop-place g l = length l.leads - l.place
