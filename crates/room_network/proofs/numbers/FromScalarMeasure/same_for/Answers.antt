use Rattle.std.proofs.Common.{◌≡◌, [], ◌∷◌, ◌∙◌, ap, sym}
use Rattle.std.specs.Prelude.{pos, ◌+ℤ◌}
use mir.Syntax.{w128}
use Rattle.std.proofs.lemmas.Int.{to_z-of_z}
use Rattle.networks.specs.Judged.{rule_in, verdict_of}
use Rattle.room_network.specs.declared.numbers.Operation.TheVariants.{Sum}
use Rattle.room_network.proofs.Raising.{sums-raised}
use Rattle.room_network.proofs.numbers.FromScalarMeasure.same_for.Goals as goal

pub returns-in-Sum : goal.returns-in-Sum
returns-in-Sum g c = λ d few.
    let n = g.N.ScalarMeasure.numbers c.self.inside.inner in
    let p = c.args.partial in
    let l = n.least c.args.stage c.args.room.now in
    let h = n.greatest c.args.stage c.args.room.now in
    let rule = rule_in n.judge c.args.tail in
    let sum : n.operation ≡ Sum = sym c.operation.ensures ∙ c.in-Sum.is in
    let key : c.as_slice.result.now ≡ p ∷ [] = c.as_slice.ensures ∙ ap (λ z. z ∷ []) (to_z-of_z w128 p c.ranges.partial) in
    let told : verdict_of rule ((p +ℤ l) +ℤ pos d) ((p +ℤ h) +ℤ pos d) ≡ verdict_of rule (p +ℤ l) (p +ℤ h) = rw (c.ends_of-ends.ensures.low, c.ends_of-ends.ensures.high, key, sum, c.judge.ensures.judge) at (c.same_for.ensures d few) in
    rw (← c.self.view_is, sum) (sums-raised rule p l h d told)
