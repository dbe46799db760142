use Rattle.std.proofs.Common.{◌≡◌, ◌∙◌, ◌+◌, ◌||◌, ◌∷◌, ℕ, Bool, List, None, Some, [], arith, cond, false, length, not, refl, rules, sym, true}
use Rattle.std.specs.List.{list_any, position_or_len}
use Rattle.settings.specs.Words.{is_equals_sign, option_named}
use Rattle.settings.proofs.words.WordsSoFar.with_dashes.Goals as goal

-- what is not found is nowhere
nowhere : (p : ℕ → Bool) (bytes : List ℕ) → position_or_len p bytes ≡ length bytes → list_any p bytes ≡ false
nowhere p [] end = refl
nowhere p (byte ∷ bytes) end = by_test (p byte) (nowhere p bytes) end
  where
    by_test : (here : Bool) → (position_or_len p bytes ≡ length bytes → list_any p bytes ≡ false) → cond (not here) (1 + position_or_len p bytes) 0 ≡ length (byte ∷ bytes)
        → (here || list_any p bytes) ≡ false
    by_test true more end = absurd (omega arith)
    by_test false more end = more (omega arith)

pub returns-in-Some-option_named-2 : goal.returns-in-Some-option_named-2
returns-in-Some-option_named-2 c =
    let named : option_named c.args.word.now ≡ Some c.in-Some-option_named-2.option = sym c.option_named-in-None.ensures ∙ c.in-Some-option_named-2.is in
    rw (nowhere is_equals_sign c.args.word.now (search rules), named) c.with_name.ensures

pub returns : goal.returns
returns c =
    let named : option_named c.args.word.now ≡ None = sym c.option_named-in-None.ensures ∙ c.in-None-option_named-2.is in
    rw (nowhere is_equals_sign c.args.word.now (search rules), named) refl
