use Rattle.std.proofs.Common.{◌≡◌, ◌+◌, ◌*◌, ap, subst, sym, ◌∙◌, arith, refl}
use Rattle.node_pool.specs.Nodes.{Node}
use Rattle.networks.proofs.Steps.{sum_by-same}
use Rattle.networks.specs.Network.{Network}
use Rattle.networks.specs.declared.tail_sums.Kept.{Kept}
use Rattle.networks.specs.declared.tail_sums.Kept.TheVariants.{Open}
use Rattle.networks.specs.declared.tail_sums.TailSum.{TailSum}
use Rattle.stage_network.proofs.Asked.{asked-extreme_at}
use Rattle.stage_network.proofs.Courses.{swept-sum}
use Rattle.stage_network.specs.FromKeys.{course_from}
use Rattle.stage_network.specs.SweepSteps.{Course, IsSweeping}
use Rattle.score_convolution.proofs.few_keys.onward_in.Goals as goal

pub loop-sweep-init : goal.loop-sweep-init
loop-sweep-init g c =
    let n : Network = g.S.Stages.network c.args.stages.now in
    let was = c.in_ok-sweep.ensures.sweeping in
    let here : course_from n (Open c.only.result) c.args.stage c.args.keys.now c.args.weights.now ≡ record { keep = c.in_ok-sweep.sweep.keep; stage = g.from.stage; nodes = g.from.nodes } = rw (was.keeps, c.requires.1.1.0, c.requires.1.1.1.0) refl in
    subst (λ (course : Course). IsSweeping n (g.S.Roomed.room_width c.args.stages.now) (g.S.Roomed.step_width c.args.stages.now) g.C.Count.LIMIT course c.in_ok-sweep.sweep) here was

pub advance-requires : goal.advance-requires
advance-requires g c =
    let n : Network = g.S.Stages.network c.args.stages.now in
    let s = c.loop-sweep.invariant in
    λ κs h. (
      h.0,
      (
        h.1,
        (
          omega (arith, c.loop-sweep-test.true, c.stages-count.ensures.count),
          subst (λ (k : Kept). IsSweeping n (g.S.Roomed.room_width c.args.stages.now) (g.S.Roomed.step_width c.args.stages.now) g.C.Count.LIMIT (record { keep = k; stage = g.from.stage; nodes = g.from.nodes }) c.loop-sweep.sweep) (sym s.keeps) s,
        ),
      ),
    )

pub loop-sweep-preserved : goal.loop-sweep-preserved
loop-sweep-preserved g c =
    let n : Network = g.S.Stages.network c.args.stages.now in
    subst (λ (k : Kept). IsSweeping n (g.S.Roomed.room_width c.args.stages.now) (g.S.Roomed.step_width c.args.stages.now) g.C.Count.LIMIT (record { keep = k; stage = g.from.stage; nodes = g.from.nodes }) c.advance.new.self) c.loop-sweep.invariant.keeps c.in_ok-advance.ensures.sweeping

-- at the last stage all is closed
pub returns-then-sweep-count : goal.returns-then-sweep-count
returns-then-sweep-count g c =
    let n : Network = g.S.Stages.network c.args.stages.now in
    let tails = c.only.result in
    let began = c.in_ok-sweep.ensures.sweeping.keeps in
    let s : IsSweeping n (g.S.Roomed.room_width c.args.stages.now) (g.S.Roomed.step_width c.args.stages.now) g.C.Count.LIMIT (record { keep = Open tails; stage = g.from.stage; nodes = g.from.nodes }) c.loop-sweep.sweep =
    subst (λ (k : Kept). IsSweeping n (g.S.Roomed.room_width c.args.stages.now) (g.S.Roomed.step_width c.args.stages.now) g.C.Count.LIMIT (record { keep = k; stage = g.from.stage; nodes = g.from.nodes }) c.loop-sweep.sweep) began c.loop-sweep.invariant in
    let last : g.from.stage + s.gone ≡ n.count = omega (arith, s.stands, c.if-sweep-count.true, c.stages-count.ensures.count) in
    ap (λ (s : TailSum). s.sum) c.of.ensures
    ∙ swept-sum n s.lawful g.C.Count.LIMIT tails g.from.stage g.from.nodes s.starts s.gone last c.loop-sweep.sweep.sums c.loop-sweep.sweep.nodes.nodes s.swept c.args.tail
    ∙ sum_by-same _ _ (λ (a : Node). ap (λ m. a.weight * m) (asked-extreme_at tails n c.args.tail c.only.ensures.asked g.from.stage a.key)) g.from.nodes
