use Rattle.std.proofs.Common.{length}
use Rattle.networks.specs.Network.{pending}
use Rattle.stage_network.proofs.Listing.{IsListing}
use Rattle.stage_network.proofs.stage_arcs.StageArcs.add_run.Given as goal

-- the arcs so far, and those of the choices to come, are those of all choices
abbrev pub invariant-loop-more : goal.invariant-loop-more
invariant-loop-more g l = record {
  listing : IsListing (g.S.Stages.network l.stages) l.stage (g.S.Roomed.room_width l.stages) l.nodes.nodes l.start l.end l.more l.self;
}

abbrev pub decreases-loop-more : goal.decreases-loop-more
decreases-loop-more g l = length (pending (g.S.Stages.network l.stages) l.stage l.self.key.items l.more l.self.choice.items)
