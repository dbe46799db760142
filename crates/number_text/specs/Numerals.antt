-- Digits, with or without a sign, and the whole number that they write.
use Rattle.std.specs.Prelude.{ℕ, Bool, ◌&&◌, List, length, ℤ, pos, neg_ℤ, Option, Some, None, nat_lt, if◌then◌else◌}
use Rattle.std.specs.Char.{is_ascii_digit}
use Rattle.std.specs.List.{list_all}
use Rattle.std.specs.Str.Parse.{digits_value_after, starts_with_minus, without_leading_sign}

-- each byte is a decimal digit
abbrev pub all_digits : List ℕ → Bool
all_digits text = list_all is_ascii_digit text

-- one digit or more, and nothing else
abbrev pub is_numeral : List ℕ → Bool
is_numeral text = nat_lt 0 (length text) && all_digits text

-- the number that decimal digits write behind those of `start`, and by themselves
abbrev pub decimal_value_after : ℕ → List ℕ → ℕ
decimal_value_after start digits = digits_value_after 10 start digits

abbrev pub decimal_value : List ℕ → ℕ
decimal_value digits = decimal_value_after 0 digits

-- a magnitude with its sign
abbrev pub signed : Bool → ℕ → ℤ
signed negative magnitude = if negative then neg_ℤ (pos magnitude) else pos magnitude

-- the whole number that a sign and digits write, where there is a digit and nothing else
abbrev pub integer_from : Bool → List ℕ → Option ℤ
integer_from negative digits =
    if is_numeral digits then Some (signed negative (decimal_value digits)) else None

-- the whole number that an optional sign and one digit or more write
abbrev pub integer_of : List ℕ → Option ℤ
integer_of text = integer_from (starts_with_minus text) (without_leading_sign text)
