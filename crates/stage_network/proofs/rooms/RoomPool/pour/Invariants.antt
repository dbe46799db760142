use Rattle.std.proofs.Common.{◌≡◌, ◌≤◌, ◌<◌, ◌+◌, ◌-◌, ℕ, List, length, take, drop}
use Rattle.std.specs.Prelude.{ℤ}
use Rattle.node_pool.specs.Nodes.{Node, weighted}
use Rattle.node_runs.specs.Runs.{loose_nodes}
use Rattle.stage_network.specs.NodeSteps.{AllHeavy}
use Rattle.stage_network.specs.ArcSteps.{segment, chosen}
use Rattle.stage_network.specs.SweepSteps.{IsFitted}
use Rattle.stage_network.proofs.rooms.RoomPool.pour.Given as goal

-- every sum has grown by the nodes before this one, of which some are put aside
abbrev pub invariant-loop-i : goal.invariant-loop-i
invariant-loop-i g l =
    let n = g.S.Stages.network l.stages in
    let loose : List Node = loose_nodes g.C.Count.number l.self.loose.items in
    record {
      from : l.arc.start ≤ l.i;
      told : (f : List ℤ → ℕ) → weighted f l.self.partials.nodes + weighted f loose ≡ weighted f l.fn.self.partials.nodes + weighted (λ k. f (drop (g.S.Roomed.room_width l.stages) k)) (chosen n l.stage l.choice (take (l.i - l.arc.start) (segment l.arc.start l.arc.end l.nodes.nodes)));
      heavy : AllHeavy l.fn.self.partials.nodes → AllHeavy l.self.partials.nodes × AllHeavy loose;
      one : 0 < length l.self.loose.items → l.self.partials.width ≡ 1;
      fitted : IsFitted n (g.S.Roomed.room_width l.stages) (g.S.Roomed.step_width l.stages) l.self;
      step : l.self.step.items ≡ g.S.Roomed.step_of l.stages l.stage l.room l.choice;
    }
