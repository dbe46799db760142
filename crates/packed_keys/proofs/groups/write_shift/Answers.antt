use Rattle.std.proofs.Common.{◌^◌, ◌∙◌, [], ◌∷◌, ap, rules, sym, FitsSigned}
use Rattle.std.specs.Prelude.{pos}
use mir.Syntax.{w128}
use Rattle.std.proofs.lemmas.Int.{to_z-of_z}
use Rattle.packed_keys.specs.PackedGroups.{shift}
use Rattle.packed_keys.proofs.DigitLists.{set-both}
use Rattle.packed_keys.proofs.groups.write_shift.Goals as goal

pub returns-then-stay : goal.returns-then-stay
returns-then-stay c =
    let s : FitsSigned w128 c.packed_number.result = search rules in
    set-both c.args.numbers.now _ _ c.requires.room
    ∙ ap (λ z. pos 1 ∷ z ∷ []) (to_z-of_z w128 c.packed_number.result s ∙ c.packed_number.ensures)
    ∙ ap (λ b. shift (2 ^ c.args.bits) b c.args.added.now) (sym c.if-stay.true ∙ c.stay.ensures)

pub returns-else-stay : goal.returns-else-stay
returns-else-stay c =
    set-both c.args.numbers.now _ _ c.requires.room
    ∙ ap (λ b. shift (2 ^ c.args.bits) b c.args.added.now) (sym c.if-stay.false ∙ c.stay.ensures)
