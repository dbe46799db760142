-- Lists of whole numbers, separated by commas.
use Rattle.std.specs.Prelude.{ℕ, Bool, ◌&&◌, ◌∷◌, [], List, length, ℤ, Option, Some, None, int_le, nat_le, option_and_then, option_map, ◌≤ℤ◌, ◌==◌, if◌then◌else◌}
use Rattle.std.specs.List.{slice_split}
use Rattle.number_text.specs.Numerals.{integer_of}
use Rattle.number_text.specs.Trimmed.{trimmed}

-- the comma between two items
abbrev pub is_comma : ℕ → Bool
is_comma byte = byte == 44

-- the number lies from low to high
abbrev pub IsWithin : ℤ → ℤ → ℤ → Type 0
IsWithin low high item = (low ≤ℤ item) × (item ≤ℤ high)

-- the number, where it lies from low to high
abbrev pub within : ℤ → ℤ → ℤ → Option ℤ
within low high item = if (int_le low item && int_le item high) then Some item else None

-- the item that a text between two commas writes, where it lies from low to high
abbrev pub item_of : ℤ → ℤ → List ℕ → Option ℤ
item_of low high text = option_and_then (within low high) (integer_of (trimmed text))

-- the items of the texts, where each text has one
abbrev pub items_of : ℤ → ℤ → List (List ℕ) → Option (List ℤ)
items_of low high [] = Some []
items_of low high (text ∷ texts) =
    option_and_then
    (λ item. option_map (λ items. item ∷ items) (items_of low high texts))
    (item_of low high text)

-- the items, where there are at most `room`
abbrev pub fitting : ℕ → List ℤ → Option (List ℤ)
fitting room items = if nat_le (length items) room then Some items else None

-- the numbers that a list writes, where each lies from low to high and there are at most `room`
unfoldable pub list_of : ℤ → ℤ → ℕ → List ℕ → Option (List ℤ)
list_of low high room text =
    option_and_then (fitting room) (items_of low high (slice_split is_comma text))
