-- A text that is put to the front of a place.
use Rattle.std.specs.Prelude.{◌≡◌, ℕ, List, ◌++◌, drop, length, min, take}

-- the whole text, and so many bytes of it; what stands behind it stays
abbrev pub IsPut : List ℕ → List ℕ → ℕ → List ℕ → Type 0
IsPut before after count text = (count ≡ length text) × (after ≡ text ++ drop count before)

-- as much of the text as goes in
abbrev pub IsFilled : List ℕ → List ℕ → ℕ → List ℕ → Type 0
IsFilled before after count text =
    (count ≡ min (length text) (length before)) × (after ≡ take count text ++ drop count before)
