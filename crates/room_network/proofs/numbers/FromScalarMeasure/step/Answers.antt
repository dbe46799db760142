use Rattle.std.proofs.Common.{rules, ◌∷◌, [], ℤ, ◌∙◌, ap, FitsSigned}
use mir.Syntax.{w128}
use mir.Val.{to_z, of_z}
use Rattle.std.proofs.lemmas.Int.{to_z-of_z}
use Rattle.weights.proofs.Items.{one_item}
use Rattle.room_network.proofs.numbers.FromScalarMeasure.step.Goals as goal

pub returns : goal.returns
returns g c =
    let s : FitsSigned w128 c.number.result = search rules in
    rw (← c.self.view_is)
    (one_item c.args.step.now (to_z w128 (of_z w128 c.number.result)) c.requires.room
    ∙ ap (λ (z : ℤ). z ∷ []) (to_z-of_z w128 c.number.result s ∙ c.number.ensures))
