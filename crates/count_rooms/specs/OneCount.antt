-- Rooms and choices of one number: how much remains, and how much of it is chosen.
use Rattle.std.specs.Prelude.{◌≡◌, ℕ, ◌+◌, ◌-◌, ◌<◌, ◌^◌, ℤ, pos, nat_abs}
use Rattle.std.specs.Prelude.{List, [], ◌∷◌, map, slice_index, slice_index_or}
use Rattle.std.specs.List.{range_with_len}

-- the one number of a room, and of a choice
abbrev pub remaining : List ℤ → ℕ
remaining room = nat_abs (slice_index_or room 0 (pos 0))

abbrev pub chosen : List ℕ → ℕ
chosen choice = slice_index choice 0

-- the choices from one number to another
abbrev pub choices_between : ℕ → ℕ → List (List ℕ)
choices_between least greatest = map (λ x. x ∷ []) (range_with_len least (greatest + 1 - least))

-- a room of one number, of 64 bits
pub record IsOneCount (room : List ℤ) : Type 0 where
  pub is : room ≡ pos (remaining room) ∷ []
  pub small : remaining room < 2 ^ 64
