-- What a source of one file holds.
use Rattle.std.specs.Prelude.{ℕ, List, Option, Some, None, if◌then◌else◌}
use Rattle.std.specs.Str.{bytes_eq}

-- the bytes, where they are asked for by their name
abbrev pub held_under : List ℕ → List ℕ → List ℕ → Option (List ℕ)
held_under name bytes asked = if bytes_eq asked name then Some bytes else None
