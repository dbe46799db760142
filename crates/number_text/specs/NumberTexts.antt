-- Number texts, and the values that they write in units of 10^-18.
use Rattle.std.specs.Prelude.{ℕ, zero, suc, ◌+◌, ◌*◌, ◌/◌, ◌%◌, ◌^◌, Bool, ◌&&◌, ◌||◌, List, ◌++◌, length, ℤ, pos, negsuc, ◌-ℤ◌, Option, Some, None, Result, Err, option_map, ok_or, bytes_eq, codes, ◌==◌, nat_lt, if◌then◌else◌}
use Rattle.std.specs.List.{before_first, after_first, list_any}
use Rattle.std.specs.Str.Parse.{starts_with_minus, without_leading_sign}
use Rattle.number_text.specs.declared.NumberFault.{NumberFault}
use Rattle.number_text.specs.declared.NumberFault.TheVariants.{Missing, NotNumber, OutOfRange}
use Rattle.number_text.specs.Numerals.{is_numeral, decimal_value, signed, integer_of}
use Rattle.number_text.specs.Trimmed.{trimmed}

-- the decimal point
abbrev pub is_point : ℕ → Bool
is_point byte = byte == 46

-- `e` or `E`
abbrev pub is_exponent_mark : ℕ → Bool
is_exponent_mark byte = byte == 101 || byte == 69

-- The parts of a number text. That of `-12.5e-3` is negative, its whole part is `12`, its fraction
-- `5` and its exponent -3.
pub record Numeral : Type 0 where
  pub negative : Bool
  pub whole : List ℕ
  pub fraction : List ℕ
  pub exponent : ℤ

-- the exponent of a text without its sign: 0 where no mark stands there, and else what stands after
-- the first one
abbrev pub exponent_of : List ℕ → Option ℤ
exponent_of unsigned =
    if list_any is_exponent_mark unsigned
    then integer_of (after_first is_exponent_mark unsigned) else Some (pos 0)

-- the parts that a sign, the digits with their point, and an exponent make
abbrev pub numeral_with : Bool → List ℕ → ℤ → Numeral
numeral_with negative decimal exponent = record {
  negative = negative;
  whole = before_first is_point decimal;
  fraction = after_first is_point decimal;
  exponent = exponent;
}

-- the digits of a decimal without its point
abbrev pub digits_of_decimal : List ℕ → List ℕ
digits_of_decimal decimal = before_first is_point decimal ++ after_first is_point decimal

-- The parts of the text, where it is a number text: an optional sign, digits with at most one point
-- among them, and perhaps a mark and an exponent. At least one digit stands before the mark.
abbrev pub numeral_of : List ℕ → Option Numeral
numeral_of text =
    let unsigned = without_leading_sign text in
    let decimal = before_first is_exponent_mark unsigned in
    if is_numeral (digits_of_decimal decimal)
    then option_map (numeral_with (starts_with_minus text) decimal) (exponent_of unsigned)
    else None

-- the quotient, where it is a whole number below 10^36
abbrev pub whole_in_range : ℕ → ℕ → Option ℕ
whole_in_range numerator denominator =
    if (numerator % denominator == 0 && nat_lt (numerator / denominator) (10 ^ 36))
    then Some (numerator / denominator) else None

-- the number of units of 10^-18 in digits * 10 ^ exponent, where it is in range: 0 is, whatever the
-- exponent
unfoldable pub units_of : ℕ → ℤ → Option ℕ
units_of zero exponent = Some 0
units_of (suc n) (pos up) = whole_in_range (suc n * 10 ^ (18 + up)) 1
units_of (suc n) (negsuc down) = whole_in_range (suc n * 10 ^ 18) (10 ^ suc down)

-- the magnitude of the value in units of 10^-18: the digits without the point, times 10 to the
-- exponent less the length of the fraction
abbrev pub magnitude_of : Numeral → Option ℕ
magnitude_of n =
    units_of (decimal_value (n.whole ++ n.fraction)) (n.exponent -ℤ pos (length n.fraction))

-- the value of a text in its parts, or its fault
abbrev pub value_of_parts : Option Numeral → Result ℤ NumberFault
value_of_parts None = Err NotNumber
value_of_parts (Some n) = ok_or (option_map (signed n.negative) (magnitude_of n)) OutOfRange

-- a text that stands for no value
abbrev pub is_missing : List ℕ → Bool
is_missing text = length text == 0 || bytes_eq text (codes "NA")

-- the value of a text in units of 10^-18, or its first fault
unfoldable pub value_of : List ℕ → Result ℤ NumberFault
value_of text =
    if is_missing (trimmed text) then Err Missing else value_of_parts (numeral_of (trimmed text))
