use Rattle.std.proofs.Common.{◌≡◌, ◌≤◌, ◌+◌, ℕ, List, suc, length, get_or, take, drop}
use Rattle.std.specs.Prelude.{ℤ}
use Rattle.node_pool.specs.Nodes.{weighted}
use Rattle.stage_network.specs.NodeSteps.{AllHeavy}
use Rattle.stage_network.specs.ArcSteps.{Arc, spread_out, bucket}
use Rattle.stage_network.specs.SweepSteps.{IsFitted}
use Rattle.stage_network.proofs.rooms.RoomPool.fill.Given as goal

-- the nodes so far, and those of the arcs to come, are those of all arcs to the room
abbrev pub invariant-loop-place : goal.invariant-loop-place
invariant-loop-place g l =
    let n = g.S.Stages.network l.stages in
    let width = g.S.Roomed.room_width l.stages in
    let arcs = l.all.arcs.arcs in
    record {
      told : (f : List ℤ → ℕ) → weighted f l.self.partials.nodes + weighted (λ k. f (drop width k)) (spread_out n l.stage l.nodes.nodes (bucket l.target (take l.place arcs))) ≡ weighted (λ k. f (drop width k)) (spread_out n l.stage l.nodes.nodes (bucket l.target arcs));
      low : l.place ≤ length arcs;
      here : (i : ℕ) (d : Arc) → l.place ≡ suc i → (get_or arcs i d).target ≡ l.target;
      heavy : AllHeavy l.self.partials.nodes;
      fitted : IsFitted n width (g.S.Roomed.step_width l.stages) l.self;
    }

abbrev pub decreases-loop-place : goal.decreases-loop-place
decreases-loop-place g l = l.place
