use Rattle.std.proofs.Common.{◌≡◌, ◌≤◌, ◌+◌, ◌-◌, ◌*◌, ◌<◌, ℕ, length, sym, ◌∙◌, arith, refl, rules}
use Rattle.node_pool.specs.PoolSteps.{nodes_of}
use Rattle.node_pool.proofs.NodeLists.{length-nodes}
use Rattle.networks.specs.EachTail.{sum_for}
use Rattle.stage_network.proofs.Starting.{starts-course, starts-swept}
use Rattle.stage_network.proofs.Sweeps.{counted-le}
use Rattle.stage_network.proofs.sweep.Sweep.from_keys.Goals as goal

few-in : (o m g : ℕ) → o ≤ m → m < 18446744073709551616 → o ≤ (g + 1) * 18446744073709551615
few-in o m g h small = grind (arith, h, small)

pub returns-clause-sweeping : goal.returns-clause-sweeping
returns-clause-sweeping g c =
    let n = g.S.Stages.network c.args.stages.now in
    let w = c.room_width-width.result in
    let keep = c.args.keep in
    let at = c.args.stage in
    let starts = c.requires.starts in
    let all = nodes_of n.width c.args.keys.now c.args.weights.now in
    let wide : (m : ℕ) → m ≡ w + (c.width.result - w) → m ≡ n.width = λ m e. omega (arith, e, c.width.ensures, c.room_width-width.ensures.roomed.within, c.room_width-width.ensures.width) in
    let told = c.in_ok-sums.ensures in
    record {
      lawful = c.stages-count.ensures.lawful;
      starts = starts-course n keep at c.args.keys.now c.args.weights.now starts g.C.Count.LIMIT c.requires.limit;
      stores = record {
        roomed = c.room_width-width.ensures.roomed;
        nodes = record { room_width = told.here; wide = told.deep };
        ahead = record { room_width = c.new-3.ensures.room_width ∙ c.room_width-width.ensures.width; wide = wide _ c.new-3.ensures.width };
        arcs = c.in_ok-arcs.ensures;
        pool = record {
          wide = omega (arith, told.pool, c.in_ok-pool.ensures.fitted.wide);
          step = c.in_ok-pool.ensures.fitted.step;
          next = c.in_ok-pool.ensures.fitted.next ∙ sym told.pool;
        };
      };
      keeps = refl;
      gone = 0;
      stands = omega arith;
      within = starts.within;
      swept = starts-swept n keep at c.args.keys.now c.args.weights.now starts c.in_ok-sums.sums c.settle_keys.new.kept.nodes told.nodes told.sum told.opened;
      few = λ t. few-in (sum_for c.in_ok-sums.sums t).opened (length c.args.weights.now) at (omega (arith, told.opened t, counted-le n keep t at all, length-nodes n.width c.args.keys.now c.args.weights.now)) (search rules);
    }
