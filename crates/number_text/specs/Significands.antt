-- Numbers without the zeros at their end.
use Rattle.std.specs.Prelude.{◌≡◌, ◌≢◌, ℕ, ◌-◌, ◌*◌, ◌%◌, ◌^◌, ◌<◌, ◌++◌, List, length, replicate, slice_index, min, ℤ, pos, negsuc, Option, Some, None, nat_lt, if◌then◌else◌}

-- kept is the text of digits without the n zeros at its end, each of which is the byte 48
pub record DropsZeros (digits kept : List ℕ) (n : ℕ) : Type 0 where
  pub zeros : digits ≡ kept ++ replicate n 48
  pub last : 0 < length kept → slice_index kept (length kept - 1) ≢ 48

-- digits, cut at the cap, are those of value without its last zeros
pub record IsSignificand (cap value digits zeros : ℕ) : Type 0 where
  pub exact : ℕ
  pub value_is : value ≡ exact * 10 ^ zeros
  pub digits_are : digits ≡ min exact cap
  pub last_digit : 0 < exact → 0 < exact % 10

-- digits * 10 ^ power, where that is a whole number below the limit; the last digit is not 0
abbrev pub scaled : ℕ → ℕ → ℤ → Option ℕ
scaled limit digits (pos power) =
    if nat_lt (digits * 10 ^ power) limit then Some (digits * 10 ^ power) else None
scaled limit digits (negsuc power) = None
