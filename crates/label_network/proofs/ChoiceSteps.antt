-- The choice that comes after a choice, and all from one on.
use Rattle.std.specs.Prelude.{ℕ, ◌+◌, ◌-◌, List, [], ◌∷◌, min, Option, Some, None, nat_lt, if◌then◌else◌}
use Rattle.label_network.specs.ChoiceOrder.{later_choices}
use Rattle.label_network.specs.LabelSteps.{least}

-- the choice after a choice, where there is one: by a later row, or by one more of this row
abbrev pub after_or : Option (List ℕ) → ℕ → ℕ → ℕ → List ℕ → Option (List ℕ)
after_or (Some y) a c r rs = Some (a ∷ y)
after_or None a c r rs = if nat_lt a (min c r) then Some ((a + 1) ∷ least (c - (a + 1)) rs) else None

abbrev pub choice_after : ℕ → List ℕ → List ℕ → Option (List ℕ)
choice_after c [] x = None
choice_after c (r ∷ rs) [] = None
choice_after c (r ∷ rs) (a ∷ x) = after_or (choice_after (c - a) rs x) a c r rs

-- the choices from one on, or none
abbrev pub choices_from : ℕ → List ℕ → Option (List ℕ) → List (List ℕ)
choices_from c r None = []
choices_from c r (Some y) = y ∷ later_choices c r y
