use Rattle.std.proofs.Common.{◌≡◌, ◌+◌, ap, subst, ◌∙◌, arith, refl}
use Rattle.networks.specs.declared.tail_sums.Kept.TheVariants.{Open}
use Rattle.networks.specs.declared.tail_sums.TailSum.{TailSum}
use Rattle.stage_network.specs.SweepSteps.{Course, IsSweeping}
use Rattle.stage_network.proofs.Courses.{only-sum}
use Rattle.stage_network.proofs.from_keys.sum_in.Goals as goal

pub returns : goal.returns
returns g c =
    let n = g.S.Stages.network c.args.stages.now in
    let tails = c.only.result in
    let at = c.args.stage in
    let was = c.in_ok-sweep.ensures.sweeping in
    let here : record { keep = c.in_ok-sweep.sweep.keep; stage = c.in_ok-sweep.sweep.stage; nodes = g.nodes } ≡ record { keep = Open tails; stage = at; nodes = g.nodes } = rw (was.keeps, c.in_ok-sweep.ensures.stage) refl in
    let s = subst (λ (course : Course). IsSweeping n (g.S.Roomed.room_width c.args.stages.now) (g.S.Roomed.step_width c.args.stages.now) g.C.Count.LIMIT course c.advance_to.new.self) here c.in_ok-advance_to.ensures.sweeping in
    let last : at + s.gone ≡ n.count = omega (arith, s.stands, c.in_ok-advance_to.ensures.stage, c.stages-count.ensures.count) in
    ap (λ (s : TailSum). s.sum) c.of.ensures
    ∙ only-sum n s.lawful g.C.Count.LIMIT tails at g.nodes s.starts s.gone last c.args.tail c.only.ensures.asked c.advance_to.new.self.sums c.advance_to.new.self.nodes.nodes s.swept
