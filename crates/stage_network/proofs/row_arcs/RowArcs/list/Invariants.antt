use Rattle.std.proofs.Common.{◌≡◌, length, take}
use Rattle.stage_network.specs.RowSteps.{all_nodes}
use Rattle.stage_network.specs.RowSweeps.{AreRowsListed}
use Rattle.stage_network.proofs.row_arcs.RowArcs.list.Given as goal

-- the arcs are those of the rows before this one
abbrev pub invariant-loop-row : goal.invariant-loop-row
invariant-loop-row g l = record {
  from : l.start ≡ length (all_nodes (take l.row l.rows.rows));
  listed : AreRowsListed (g.S.Stages.network l.stages) (g.S.Roomed.room_width l.stages) (g.S.Roomed.step_width l.stages) l.stage l.rows.rows l.start l.self;
}
