-- The hash of a key.
use Rattle.std.specs.Prelude.{ℕ, ℤ, ◌*◌, ◌/◌, ◌%◌, ◌^◌, List, cond, nat_eq, fold, bit_xor, bit_and}
use Rattle.std.specs.Int.{cast_unsigned}
use mir.Syntax.{w128}

-- a half of a number mixed in
unfoldable pub stirred : ℕ → ℕ → ℕ
stirred hash half =
    let product : ℕ = (bit_xor hash half * 0x9E37_79B9_7F4A_7C15) % 2 ^ 64 in
    bit_xor product (product / 2 ^ 32)

-- a number mixed in: its low half, and its high half where it is not 0
abbrev pub stirred_number : ℕ → ℤ → ℕ
stirred_number hash number =
    let bits : ℕ = cast_unsigned w128 number in
    let low : ℕ = stirred hash (bit_and bits 0xFFFF_FFFF_FFFF_FFFF) in
    cond (nat_eq (bits / 2 ^ 64) 0) low (stirred low (bits / 2 ^ 64))

abbrev pub hash_of : List ℤ → ℕ
hash_of key = fold stirred_number 0 key

-- the slot of a hash, by its high bits
unfoldable pub slot_of : ℕ → ℕ → ℕ
slot_of size hash = hash * size / 2 ^ 64

-- the slot where a key is looked for first
abbrev pub home_of : ℕ → List ℤ → ℕ
home_of size key = slot_of size (hash_of key)
