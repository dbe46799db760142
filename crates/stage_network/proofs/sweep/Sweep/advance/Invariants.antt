use Rattle.stage_network.specs.SweepSteps.{IsFitted, IsShaped}
use Rattle.stage_network.proofs.Gathering.{IsGathering}
use Rattle.stage_network.proofs.sweep.Sweep.advance.Given as goal

-- the rooms before this one are settled
abbrev pub invariant-loop-target : goal.invariant-loop-target
invariant-loop-target g l =
    let n = g.S.Stages.network l.stages in
    let width = g.S.Roomed.room_width l.stages in
    record {
      ahead : IsShaped n width l.ahead;
      pool : IsFitted n width (g.S.Roomed.step_width l.stages) l.pool;
      gathering : IsGathering n l.keep l.stage l.nodes.nodes l.arcs.arcs.arcs l.target l.initial.sums l.sums l.ahead.nodes;
    }
