-- Words in one piece of bytes, each ended by a byte 0.
use Rattle.std.specs.Prelude.{ℕ, zero, suc, Bool, List, [], ◌∷◌, ◌++◌, Option, Some, None, flat_map, option_map, if◌then◌else◌, not, ◌==◌}
use Rattle.std.specs.List.{list_all}
use Rattle.std.specs.Str.{is_utf8}

-- words put together: behind each of them a byte 0
abbrev pub packed_of : List (List ℕ) → List ℕ
packed_of = flat_map (λ word. word ++ 0 ∷ [])

-- a word that the first byte 0 behind it ends
abbrev pub has_no_zero : List ℕ → Bool
has_no_zero word = list_all (λ byte. not (byte == 0)) word

-- words, the first of them with this byte in front of it; without a first there is no word that the
-- byte could be of
abbrev pub begun_by : ℕ → Option (List (List ℕ)) → Option (List (List ℕ))
begun_by byte None = None
begun_by byte (Some []) = None
begun_by byte (Some (word ∷ words)) = Some ((byte ∷ word) ∷ words)

-- the words of bytes, where a byte 0 ends each of them, and so the last
unfoldable pub words_in : List ℕ → Option (List (List ℕ))
words_in [] = Some []
words_in (zero ∷ rest) = option_map (λ words. [] ∷ words) (words_in rest)
words_in (suc byte ∷ rest) = begun_by (suc byte) (words_in rest)

-- the words, where each of them is a text, and else none
abbrev pub texts_of : Option (List (List ℕ)) → List (List ℕ)
texts_of None = []
texts_of (Some words) = if list_all is_utf8 words then words else []

-- the words of bytes, where each of them is ended and a text, and else none
abbrev pub texts_in : List ℕ → List (List ℕ)
texts_in bytes = texts_of (words_in bytes)
