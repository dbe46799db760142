use Rattle.std.proofs.Common.{◌≡◌, sym, subst, ◌∙◌, arith}
use Rattle.networks.specs.declared.tail_sums.Kept.{Kept}
use Rattle.networks.specs.declared.tail_sums.Kept.TheVariants.{Open}
use Rattle.networks.specs.Network.{Network}
use Rattle.stage_network.proofs.Asked.{asked-extreme}
use Rattle.stage_network.proofs.Courses.{swept-last}
use Rattle.stage_network.specs.SweepSteps.{HasSwept, IsSweeping, first_course}
use Rattle.score_convolution.proofs.few_keys.few_in.Goals as goal

pub advance-requires : goal.advance-requires
advance-requires g c =
    let n : Network = g.S.Stages.network c.args.stages.now in
    let s = c.loop-sweep.invariant in
    λ κs h. (
      h.0,
      (
        h.1,
        (
          omega (arith, c.loop-sweep-test.true, c.stages-count.ensures.count),
          subst (λ (k : Kept). IsSweeping n (g.S.Roomed.room_width c.args.stages.now) (g.S.Roomed.step_width c.args.stages.now) g.C.Count.LIMIT (first_course n k) c.loop-sweep.sweep) (sym s.keeps) s,
        ),
      ),
    )

pub loop-sweep-preserved : goal.loop-sweep-preserved
loop-sweep-preserved g c =
    let n : Network = g.S.Stages.network c.args.stages.now in
    let keep : c.loop-sweep.sweep.keep ≡ Open c.args.tails = c.loop-sweep.invariant.keeps in
    subst (λ (k : Kept). IsSweeping n (g.S.Roomed.room_width c.args.stages.now) (g.S.Roomed.step_width c.args.stages.now) g.C.Count.LIMIT (first_course n k) c.advance.new.self) keep c.in_ok-advance.ensures.sweeping

pub returns-in-Ok-Some : goal.returns-in-Ok-Some
returns-in-Ok-Some g c t a = (rw c.in-Ok-Some.field-0-is at (rw c.in-Ok-Some.is at c.row_sums.ensures.sum)) t ∙ asked-extreme c.args.tails (g.S.Stages.network c.args.stages.now) t a

-- at the last stage all is closed
pub returns : goal.returns
returns g c t a =
    let n : Network = g.S.Stages.network c.args.stages.now in
    let sweep = c.loop-sweep.sweep in
    let s = c.loop-sweep.invariant in
    let last : s.gone ≡ n.count = omega (arith, s.stands, s.within, c.if-sweep-count.false, c.stages-count.ensures.count) in
    let all = swept-last n s.lawful g.C.Count.LIMIT (Open c.args.tails) s.starts sweep.sums sweep.nodes.nodes (subst (λ m. HasSwept n (first_course n (Open c.args.tails)) m sweep.sums sweep.nodes.nodes) last s.swept) in
    (all t).0 ∙ asked-extreme c.args.tails n t a
