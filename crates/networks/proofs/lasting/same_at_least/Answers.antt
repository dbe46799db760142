use Rattle.std.proofs.Common.{arith}
use mir.Syntax.{w128}
use Rattle.std.proofs.lemmas.Int.{to_z-of_z}
use Rattle.networks.proofs.LastingVerdicts.{settled-same}
use Rattle.networks.proofs.lasting.same_at_least.Goals as goal

pub returns : goal.returns
returns c = λ d few.
    let t = to_z-of_z w128 c.args.least c.ranges.least in
    settled-same _ _ _ _ (rw (to_z-of_z w128 c.args.low c.ranges.low, t) at (c.same_below-of_low.ensures.reached d (omega (arith, few, c.min.ensures))))
    (rw (to_z-of_z w128 c.args.high c.ranges.high, t) at (c.same_below-of_high.ensures.below d (omega (arith, few, c.min.ensures))))
