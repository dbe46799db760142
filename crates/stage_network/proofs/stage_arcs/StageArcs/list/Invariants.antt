use Rattle.std.proofs.Common.{◌≤◌, ◌-◌, length}
use Rattle.stage_network.specs.SweepSteps.{AreListed}
use Rattle.stage_network.proofs.stage_arcs.StageArcs.list.Given as goal

-- the arcs are those of the nodes before this one
abbrev pub invariant-loop-start : goal.invariant-loop-start
invariant-loop-start g l = record {
  within : l.start ≤ length l.nodes.nodes;
  listed : AreListed (g.S.Stages.network l.stages) (g.S.Roomed.room_width l.stages) l.stage l.nodes.nodes l.start l.self;
}

abbrev pub decreases-loop-start : goal.decreases-loop-start
decreases-loop-start g l = length l.nodes.nodes - l.start
