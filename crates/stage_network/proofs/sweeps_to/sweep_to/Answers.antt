use Rattle.std.proofs.Common.{subst}
use Rattle.networks.specs.declared.tail_sums.Kept.{Kept}
use Rattle.stage_network.specs.SweepSteps.{IsSweeping, first_course}
use Rattle.stage_network.proofs.sweeps_to.sweep_to.Goals as goal

pub returns-clause-sweeping : goal.returns-clause-sweeping
returns-clause-sweeping g c =
    let n = g.S.Stages.network c.args.stages.now in
    subst (λ (k : Kept). IsSweeping n (g.S.Roomed.room_width c.args.stages.now) (g.S.Roomed.step_width c.args.stages.now) g.C.Count.LIMIT (first_course n k) c.advance_to.new.self) c.in_ok-sweep.ensures.sweeping.keeps c.in_ok-advance_to.ensures.sweeping
