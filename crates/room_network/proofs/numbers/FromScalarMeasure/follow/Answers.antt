use Rattle.std.proofs.Common.{rules, ◌≡◌, ◌∷◌, [], ℤ, ◌∙◌, ap, FitsSigned}
use Rattle.std.specs.Prelude.{pos, slice_index_or}
use mir.Syntax.{w128}
use mir.Val.{to_z, of_z}
use Rattle.std.proofs.lemmas.Int.{to_z-of_z}
use Rattle.room_network.specs.Numbers.{so_far}
use Rattle.weights.proofs.Items.{one_item}
use Rattle.room_network.proofs.numbers.FromScalarMeasure.follow.Goals as goal

pub returns : goal.returns
returns g c =
    let n = g.N.ScalarMeasure.numbers c.self.inside.inner in
    let a : FitsSigned w128 c.only.result = search rules in
    let b : FitsSigned w128 c.only-2.result = search rules in
    let s : FitsSigned w128 c.put.result = search rules in
    let one : to_z w128 (of_z w128 c.only.result) ≡ so_far c.args.partial.now = to_z-of_z w128 c.only.result a ∙ c.only.ensures in
    let two : to_z w128 (of_z w128 c.only-2.result) ≡ n.step c.args._stage c.args._room.now c.args._choice.now = to_z-of_z w128 c.only-2.result b ∙ c.only-2.ensures ∙ ap (λ ns. slice_index_or ns 0 (pos 0)) (rw (← c.self.view_is) at c.requires.step) in
    let given = rw (one, two, c.operation.ensures) at c.put.ensures in
    rw (← c.self.view_is)
    (one_item c.args.next.now (to_z w128 (of_z w128 c.put.result)) c.requires.room
    ∙ ap (λ (z : ℤ). z ∷ []) (to_z-of_z w128 c.put.result s ∙ given))
