use Rattle.std.proofs.Common.{◌≡◌, rules}
use mir.Syntax.{w128}
use Rattle.std.proofs.lemmas.Int.{to_z-of_z}
use Rattle.networks.specs.Judged.{offset}
use Rattle.networks.proofs.LastingVerdicts.{far-grown}
use Rattle.networks.proofs.lasting.same_for.Goals as goal

pub returns-in-AtMost : goal.returns-in-AtMost
returns-in-AtMost c = λ d few.
    rw c.in-AtMost.is (rw (to_z-of_z w128 c.args.interval.low (search rules), to_z-of_z w128 c.args.interval.high (search rules), to_z-of_z w128 c.in-AtMost.most (search rules)) at (c.same_at_most.ensures d few))

pub returns-in-AtLeast : goal.returns-in-AtLeast
returns-in-AtLeast c = λ d few.
    rw c.in-AtLeast.is (rw (to_z-of_z w128 c.args.interval.low (search rules), to_z-of_z w128 c.args.interval.high (search rules), to_z-of_z w128 c.in-AtLeast.least (search rules)) at (c.same_at_least.ensures d few))

pub returns-in-Far : goal.returns-in-Far
returns-in-Far c = λ d few.
    let centre = to_z-of_z w128 c.in-Far.centre (search rules) in
    let a : c.from_centre-a.result ≡ offset c.in-Far.factor c.in-Far.centre c.args.interval.low = rw (centre, to_z-of_z w128 c.args.interval.low (search rules)) at c.from_centre-a.ensures in
    let b : c.from_centre-b.result ≡ offset c.in-Far.factor c.in-Far.centre c.args.interval.high = rw (centre, to_z-of_z w128 c.args.interval.high (search rules)) at c.from_centre-b.ensures in
    let told = rw (to_z-of_z w128 c.from_centre-a.result (search rules), to_z-of_z w128 c.from_centre-b.result (search rules)) at (c.same_apart.ensures d few) in
    rw c.in-Far.is (far-grown c.in-Far.factor d c.in-Far.centre c.in-Far.distance c.args.interval.low c.args.interval.high (rw (a, b) at told))
