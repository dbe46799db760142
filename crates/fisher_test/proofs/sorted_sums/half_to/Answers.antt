use Rattle.std.proofs.Common.{◌≡◌, sym, subst, arith}
use Rattle.networks.specs.Network.{Network}
use Rattle.stage_network.specs.SweepSteps.{IsSweeping, first_course}
use Rattle.networks.specs.declared.tail_sums.Kept.{Kept}
use Rattle.networks.specs.declared.tail_sums.Kept.TheVariants.{Open}
use Rattle.stage_network.proofs.Courses.{sweeping-nodes}
use Rattle.fisher_test.proofs.FirstHalves.{first-extreme, first-light}
use Rattle.fisher_test.proofs.sorted_sums.half_to.Goals as goal

pub advance_to-requires : goal.advance_to-requires
advance_to-requires g c =
    let n : Network = g.S.Stages.network c.args.stages.now in
    let s = c.in_ok-sweep.ensures.sweeping in
    λ κs h. (
      h.0,
      (
        h.1,
        (
          omega (arith, c.in_ok-sweep.ensures.stage),
          (
            c.requires.last,
            subst (λ (k : Kept). IsSweeping n (g.S.Roomed.room_width c.args.stages.now) (g.S.Roomed.step_width c.args.stages.now) g.C.Count.LIMIT (first_course n k) c.in_ok-sweep.sweep) (sym s.keeps) s,
          ),
        ),
      ),
    )

pub returns-clause-meeting : goal.returns-clause-meeting
returns-clause-meeting g c =
    let n : Network = g.S.Stages.network c.args.stages.now in
    let sweep = c.advance_to.new.self in
    let keep : c.in_ok-sweep.sweep.keep ≡ Open c.args.tails = c.in_ok-sweep.ensures.sweeping.keeps in
    let s = subst (λ (k : Kept). IsSweeping n (g.S.Roomed.room_width c.args.stages.now) (g.S.Roomed.step_width c.args.stages.now) g.C.Count.LIMIT (first_course n k) sweep) keep c.in_ok-advance_to.ensures.sweeping in
    let light = first-light n s.lawful g.C.Count.LIMIT c.args.tails s.starts s.gone sweep.stage (omega (arith, s.stands, s.within)) s.stands sweep.sums sweep.nodes.nodes s.swept in
    record {
      meeting = record {
        shape = s.stores.nodes;
        within = s.within;
        reached = sweeping-nodes n _ _ _ _ sweep s;
        heavy = s.swept.heavy;
        light = light.0;
      };
      fits = light.1;
    }

pub returns-clause-whole : goal.returns-clause-whole
returns-clause-whole g c =
    let n : Network = g.S.Stages.network c.args.stages.now in
    let sweep = c.advance_to.new.self in
    let keep : c.in_ok-sweep.sweep.keep ≡ Open c.args.tails = c.in_ok-sweep.ensures.sweeping.keeps in
    let s = subst (λ (k : Kept). IsSweeping n (g.S.Roomed.room_width c.args.stages.now) (g.S.Roomed.step_width c.args.stages.now) g.C.Count.LIMIT (first_course n k) sweep) keep c.in_ok-advance_to.ensures.sweeping in
    λ t a. first-extreme n s.lawful g.C.Count.LIMIT c.args.tails s.starts s.gone sweep.stage (omega (arith, s.stands, s.within)) s.stands sweep.sums sweep.nodes.nodes s.swept t a
