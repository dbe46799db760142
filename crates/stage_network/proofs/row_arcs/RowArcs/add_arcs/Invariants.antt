use Rattle.std.proofs.Common.{◌≡◌, length}
use Rattle.networks.specs.Network.{pending}
use Rattle.stage_network.specs.RowSteps.{AreShifts, all_nodes}
use Rattle.stage_network.proofs.Listing.{IsListing}
use Rattle.stage_network.proofs.row_arcs.RowArcs.add_arcs.Given as goal

-- the arcs so far, and those of the choices to come, are those of all choices
abbrev pub invariant-loop-more : goal.invariant-loop-more
invariant-loop-more g l =
    let n = g.S.Stages.network l.stages in
    let width = g.S.Roomed.room_width l.stages in
    record {
      listing : IsListing n l.stage width (all_nodes l.rows.rows) l.start l.end l.more l.self.listed;
      step : length l.self.step.items ≡ g.S.Roomed.step_width l.stages;
      shifts : AreShifts n l.stage width l.rows.rows l.self.listed.arcs.arcs l.self.shifts.items;
    }

abbrev pub decreases-loop-more : goal.decreases-loop-more
decreases-loop-more g l = length (pending (g.S.Stages.network l.stages) l.stage l.self.listed.key.items l.more l.self.listed.choice.items)
