use Rattle.std.proofs.Common.{◌≡◌}
use Rattle.stage_network.specs.RowSteps.{all_nodes}
use Rattle.stage_network.specs.RowSweeps.{IsRoomRow}
use Rattle.stage_network.proofs.Gathering.{IsGathering}
use Rattle.stage_network.proofs.row_sweeps.RowSweep.advance.Given as goal

-- the rooms before this one are settled
abbrev pub invariant-loop-target : goal.invariant-loop-target
invariant-loop-target g l = record {
  ahead : l.ahead.width ≡ g.S.Roomed.room_width l.stages;
  row : IsRoomRow g.C.Count.number l.row;
  gathering : IsGathering (g.S.Stages.network l.stages) l.keep l.stage (all_nodes l.rows.rows) l.arcs.listed.arcs.arcs l.target l.initial.sums l.sums (all_nodes l.ahead.rows);
}
