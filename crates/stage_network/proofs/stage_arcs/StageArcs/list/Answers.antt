use Rattle.std.proofs.Common.{refl, arith}
use Rattle.stage_network.proofs.Listing.{buffers-same, listing-none}
use Rattle.stage_network.proofs.stage_arcs.StageArcs.list.Goals as goal

pub loop-start-init : goal.loop-start-init
loop-start-init g c =
    record {
      within = omega arith;
      listed = listing-none _ _ _ _ _ (buffers-same _ _ _ _ c.requires.fitted c.clear-2.ensures.width c.clear.ensures.width refl refl refl) c.clear.ensures.nodes c.clear-2.ensures.arcs c.clear-2.ensures.rooms;
    }
