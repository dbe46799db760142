use Rattle.std.proofs.Common.{rules, ℤ, ◌∷◌, [], ◌∙◌, ap, FitsSigned}
use Rattle.std.specs.Prelude.{pos}
use mir.Syntax.{w128}
use mir.Val.{to_z, of_z}
use Rattle.std.proofs.lemmas.Int.{to_z-of_z}
use Rattle.weights.proofs.Items.{one_item}
use Rattle.kendall_test.specs.CountCodes.{code}
use Rattle.kendall_test.proofs.kendall_rooms.KendallRoomsRooms.first.Goals as goal

pub returns : goal.returns
returns c =
    let s : FitsSigned w128 c.code_of.result = search rules in
    one_item c.args.room.now (to_z w128 (of_z w128 c.code_of.result)) c.requires ∙ ap (λ (z : ℤ). z ∷ []) (to_z-of_z w128 c.code_of.result s ∙ c.code_of.ensures ∙ ap (λ xs. pos (code xs)) c.as_slice.ensures.value)
