use Rattle.std.proofs.Common.{arith}
use mir.Syntax.{w128}
use Rattle.std.proofs.lemmas.Int.{to_z-of_z}
use Rattle.networks.proofs.LastingVerdicts.{settled-same}
use Rattle.networks.proofs.lasting.same_at_most.Goals as goal

pub returns : goal.returns
returns c = λ d few.
    let t = to_z-of_z w128 c.args.most c.ranges.most in
    settled-same _ _ _ _ (rw (to_z-of_z w128 c.args.high c.ranges.high, t) at (c.same_within-of_high.ensures.within d (omega (arith, few, c.min.ensures))))
    (rw (to_z-of_z w128 c.args.low c.ranges.low, t) at (c.same_within-of_low.ensures.passed d (omega (arith, few, c.min.ensures))))
