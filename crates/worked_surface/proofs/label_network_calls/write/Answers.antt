use Rattle.std.proofs.Common.{[], ◌∷◌, ◌∙◌, ap}
use Rattle.std.specs.Prelude.{ℤ}
use mir.Syntax.{w128}
use mir.Val.{of_z, to_z}
use Rattle.std.proofs.lemmas.Int.{to_z-of_z}
use Rattle.weights.proofs.Items.{one_item}
use Rattle.worked_surface.proofs.label_network_calls.write.Goals as goal

pub returns : goal.returns
returns c =
    one_item c.args.partial.now (to_z w128 (of_z w128 c.args.number)) c.requires
    ∙ ap (λ (z : ℤ). z ∷ []) (to_z-of_z w128 c.args.number c.ranges.number)
