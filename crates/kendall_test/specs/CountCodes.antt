-- Counts in a row, kept as one number. The units stand in a row, count after count, and each unit
-- has a bit, the first the lowest, which is set where a count ends: counts of 0 leave no trace. The
-- last unit's bit is always set, and is not kept where the number of units is known.
use Rattle.std.specs.Prelude.{ℕ, zero, suc, ◌+◌, ◌-◌, ◌*◌, ◌/◌, ◌^◌, List, [], ◌∷◌, nat_eq, if◌then◌else◌}
use Rattle.std.specs.Int.Count.{count_trailing_zeros}
use Rattle.std.specs.List.{sum}

-- the bits of the units of a count, before the bits of later ones
abbrev pub with_count_bits : ℕ → ℕ → ℕ
with_count_bits zero bits = bits
with_count_bits (suc c) bits = 2 ^ c * (1 + 2 * bits)

-- the bits of all units
abbrev pub marks : List ℕ → ℕ
marks [] = 0
marks (c ∷ counts) = with_count_bits c (marks counts)

-- the bit of the last of some units
abbrev pub last_mark : ℕ → ℕ
last_mark zero = 0
last_mark (suc n) = 2 ^ n

-- the bits of all units but the last
abbrev pub code : List ℕ → ℕ
code counts = marks counts - last_mark (sum counts)

-- the first count in some bits: all up to the lowest that is set
abbrev pub first_count : ℕ → ℕ
first_count bits = if nat_eq bits 0 then 0 else count_trailing_zeros 128 bits + 1

-- the bits behind it
abbrev pub later_bits : ℕ → ℕ
later_bits bits = bits / 2 ^ count_trailing_zeros 128 bits / 2

-- m counts, of which the last ones are 0 where no bit is left
abbrev pub counts_in : ℕ → ℕ → List ℕ
counts_in zero bits = []
counts_in (suc m) bits = first_count bits ∷ counts_in m (later_bits bits)

-- the m counts of a code of so many units
abbrev pub counts_of_code : ℕ → ℕ → ℕ → List ℕ
counts_of_code m units code = counts_in m (code + last_mark units)
