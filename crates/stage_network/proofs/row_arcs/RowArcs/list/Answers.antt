use Rattle.std.proofs.Common.{length, ap, sym, arith, refl, ◌∙◌}
use Rattle.stage_network.proofs.Listing.{buffers-same, listing-none}
use Rattle.stage_network.proofs.row_arcs.RowArcs.list.Goals as goal

pub loop-row-init : goal.loop-row-init
loop-row-init g c =
    let none = c.clear-2.ensures.arcs in
    record {
      from = refl;
      listed = record {
        listed = listing-none _ _ _ _ _ (buffers-same _ _ _ _ c.requires.fitted.listed c.clear-2.ensures.width c.clear.ensures.width refl refl refl) c.clear.ensures.nodes none c.clear-2.ensures.rooms;
        step = c.requires.fitted.step;
        shifts = record { each = ap length c.clear-3.ensures.items ∙ sym (ap length none); all = λ i d e h. absurd (omega (arith, h, ap length none)) };
      };
    }
