-- What a call to the outside does to a count of faults, and to what is known of the bytes.
use Rattle.std.specs.Prelude.{◌≡◌, ◌⊎◌, ◌<◌, ◌-◌, ◌^◌, ℕ, List, Option, take}
use Rattle.std.specs.Io.KnownBytes.{Appends}

-- the greatest count of faults, at which a count stays
abbrev pub last_count : ℕ
last_count = 2 ^ 64 - 1

-- a count of faults rose in a call, or stands at its last value
abbrev pub Rose : ℕ → ℕ → Type 0
Rose old new = (old < new) ⊎ (new ≡ last_count)

-- known bytes grow by a prefix of the piece
abbrev pub AppendsPrefix : Option (List ℕ) → Option (List ℕ) → List ℕ → Type 0
AppendsPrefix old new piece = (k : ℕ) × Appends old new (take k piece)
