use Rattle.std.proofs.Common.{◌≤◌, ◌-◌}
use Rattle.stage_network.specs.RowSweeps.{IsRowSweeping}
use Rattle.stage_network.proofs.row_sweeps.RowSweep.advance_to.Given as goal

abbrev pub ghost-advance : goal.ghost-advance
ghost-advance g a = g.course

-- it stays on its course
abbrev pub invariant-loop-self : goal.invariant-loop-self
invariant-loop-self g l = record {
  order : l.self.stage ≤ l.to;
  sweeping : IsRowSweeping (g.S.Stages.network l.stages) (g.S.Roomed.room_width l.stages) (g.S.Roomed.step_width l.stages) g.C.Count.LIMIT g.C.Count.number g.course l.self;
}

abbrev pub decreases-loop-self : goal.decreases-loop-self
decreases-loop-self g l = l.to - l.self.stage
