use Rattle.std.proofs.Common.{◌≡◌, subst, arith}
use Rattle.networks.specs.declared.tail_sums.Kept.{Kept}
use Rattle.stage_network.specs.NodeSteps.{AllReached}
use Rattle.stage_network.specs.SweepSteps.{HasSwept, IsSweeping, first_course}
use Rattle.stage_network.proofs.Courses.{sweeping-nodes, sweeping-light, swept-last}
use Rattle.stage_network.proofs.sweep.sweep_through.Goals as goal

pub returns : goal.returns
returns g c =
    let n = g.S.Stages.network c.args.stages.now in
    let sweep = c.advance_to.new.self in
    let told = c.in_ok-advance_to.ensures in
    let s = subst (λ (k : Kept). IsSweeping n (g.S.Roomed.room_width c.args.stages.now) (g.S.Roomed.step_width c.args.stages.now) g.C.Count.LIMIT (first_course n k) sweep) c.in_ok-sweep.ensures.sweeping.keeps told.sweeping in
    let end : sweep.stage ≡ n.count = omega (arith, told.stage, c.stages-count.ensures.count) in
    let last : s.gone ≡ n.count = omega (arith, s.stands, end) in
    record {
      swept = swept-last n s.lawful g.C.Count.LIMIT c.args.keep s.starts sweep.sums sweep.nodes.nodes (subst (λ m. HasSwept n (first_course n c.args.keep) m sweep.sums sweep.nodes.nodes) last s.swept);
      wide = s.stores.nodes.wide;
      reached = subst (λ m. AllReached n m sweep.nodes.nodes) end (sweeping-nodes n _ _ _ _ sweep s);
      fits = sweeping-light n _ _ _ _ sweep s;
    }
