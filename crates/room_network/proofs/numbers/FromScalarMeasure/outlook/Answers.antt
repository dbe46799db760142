use Rattle.std.proofs.Common.{rules, ◌∙◌, refl, FitsSigned}
use mir.Syntax.{w128}
use Rattle.std.proofs.lemmas.Int.{to_z-of_z}
use Rattle.weights.proofs.Items.{two_items}
use Rattle.room_network.proofs.numbers.FromScalarMeasure.outlook.Goals as goal

pub returns : goal.returns
returns g c =
    let a : FitsSigned w128 c.later-later.result.low = search rules in
    let b : FitsSigned w128 c.later-later.result.high = search rules in
    two_items c.args.outlook.now _ _ c.requires.wide
    ∙ rw (← c.self.view_is, to_z-of_z w128 c.later-later.result.low a ∙ c.later-later.ensures.low, to_z-of_z w128 c.later-later.result.high b ∙ c.later-later.ensures.high) refl
