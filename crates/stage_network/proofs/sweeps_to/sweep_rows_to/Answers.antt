use Rattle.std.proofs.Common.{◌≤◌, ◌+◌, ◌*◌, ℕ, sym, subst, ◌∙◌, arith, refl}
use Rattle.networks.specs.declared.tail_sums.Kept.{Kept}
use Rattle.networks.specs.EachTail.{sum_for}
use Rattle.stage_network.specs.RowSweeps.{IsRowSweeping}
use Rattle.stage_network.specs.SweepSteps.{HasSwept, first_course}
use Rattle.stage_network.proofs.sweeps_to.sweep_rows_to.Goals as goal

few-in : (o g : ℕ) → o ≤ 18446744073709551615 → o ≤ (g + 1) * 18446744073709551615
few-in o g h = omega (arith, h)

pub returns-clause-sweeping : goal.returns-clause-sweeping
returns-clause-sweeping g c =
    let n = g.S.Stages.network c.args.stages.now in
    let keep = c.args.keep in
    let sweep = c.advance_to.new.self in
    let told = c.in_ok-advance_to.ensures in
    let s = subst (λ (k : Kept). IsRowSweeping n (g.S.Roomed.room_width c.args.stages.now) (g.S.Roomed.step_width c.args.stages.now) g.C.Count.LIMIT g.C.Count.number (first_course n k) sweep) c.in_ok-sweep.ensures.sweeping.keeps told.sweeping in
    let wide = c.room_width-width.ensures.width in
    record {
      lawful = s.lawful;
      starts = s.starts;
      stores = record {
        roomed = s.stores.roomed;
        nodes = record { room_width = c.in_ok-nodes.ensures.room_width ∙ s.stores.rows; wide = omega (arith, c.in_ok-nodes.ensures.width, s.stores.rows, c.requires.shifting.one) };
        ahead = record { room_width = c.new-4.ensures.room_width ∙ wide; wide = omega (arith, c.new-4.ensures.width, wide, c.requires.shifting.one) };
        arcs = c.in_ok-arcs.ensures;
        pool = c.in_ok-pool.ensures.fitted;
      };
      keeps = refl;
      gone = s.gone;
      stands = omega (arith, s.stands, told.stage);
      within = c.requires.last;
      swept = subst (λ ns. HasSwept n (first_course n keep) s.gone sweep.sums ns) (sym c.in_ok-nodes.ensures.nodes) s.swept;
      few = λ t. few-in (sum_for sweep.sums t).opened c.args.to (c.in_ok-check_few.ensures t);
    }
