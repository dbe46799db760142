-- A text without the spaces and tabs around it.
use Rattle.std.specs.Prelude.{ℕ, Bool, ◌||◌, List, [], ◌∷◌, reverse, ◌==◌, if◌then◌else◌}

-- a space, which is the byte 32, or a tab
abbrev pub is_blank : ℕ → Bool
is_blank byte = byte == 32 || byte == 9

-- the text from its first byte that is no blank
abbrev pub without_leading_blanks : List ℕ → List ℕ
without_leading_blanks [] = []
without_leading_blanks (byte ∷ rest) =
    if is_blank byte then without_leading_blanks rest else byte ∷ rest

-- the text up to its last byte that is no blank
abbrev pub without_trailing_blanks : List ℕ → List ℕ
without_trailing_blanks text = reverse (without_leading_blanks (reverse text))

-- the text without the blanks at both ends
abbrev pub trimmed : List ℕ → List ℕ
trimmed text = without_trailing_blanks (without_leading_blanks text)
