use Rattle.std.proofs.Common.{◌≤◌, arith}
use mir.Syntax.{w128}
use Rattle.std.proofs.lemmas.Int.{to_z-of_z}
use Rattle.std.specs.Prelude.{pos, ◌+ℤ◌}
use Rattle.networks.proofs.LastingVerdicts.{far-same}
use Rattle.networks.proofs.lasting.same_far.Goals as goal

pub returns : goal.returns
returns c = λ d few.
    let a = to_z-of_z w128 c.args.a c.ranges.a in
    let b = to_z-of_z w128 c.args.b c.ranges.b in
    let first : d ≤ c.same_side-of_a.result = omega (arith, few, c.min.ensures) in
    let second : d ≤ c.same_side-of_b.result = omega (arith, few, c.min.ensures) in
    far-same c.args.distance c.args.a c.args.b (c.args.a +ℤ pos d) (c.args.b +ℤ pos d) (rw a at (c.same_side-of_a.ensures.reached d first)) (rw b at (c.same_side-of_b.ensures.within d second)) (rw b at (c.same_side-of_b.ensures.below d second)) (rw a at (c.same_side-of_a.ensures.passed d first))
