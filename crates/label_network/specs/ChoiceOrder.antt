-- The choices of a column one after another: those that are still to come after a choice.
use Rattle.std.specs.Prelude.{ℕ, ◌+◌, ◌-◌, List, [], ◌∷◌, ◌++◌, map, min}
use Rattle.std.specs.List.{flat_map, range_with_len}
use Rattle.weights.specs.Grouped.{choices}

-- the choices that give row a count, from a count on and as many as that
abbrev pub choices_with : ℕ → List ℕ → ℕ → ℕ → List (List ℕ)
choices_with c rs from many =
    flat_map (λ b. map (λ y. b ∷ y) (choices (c - b) rs)) (range_with_len from many)

-- those after a choice: with the same first count, and then with a greater one
abbrev pub later_choices : ℕ → List ℕ → List ℕ → List (List ℕ)
later_choices c [] x = []
later_choices c (r ∷ rs) [] = []
later_choices c (r ∷ rs) (a ∷ x) =
    map (λ y. a ∷ y) (later_choices (c - a) rs x) ++ choices_with c rs (a + 1) (min c r - a)
