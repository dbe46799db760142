-- A quotient of at most 1 with six decimals, rounded half up.
use Rattle.std.specs.Prelude.{ℕ, ◌+◌, ◌*◌, ◌/◌, ◌%◌, ◌^◌, List, [], ◌∷◌}

-- the quotient in millionths, rounded half up
abbrev pub millionths : ℕ → ℕ → ℕ
millionths numerator denominator = (2000000 * numerator + denominator) / (2 * denominator)

-- the decimal digit at the place of 10^k, as a character
abbrev pub digit_at : ℕ → ℕ → ℕ
digit_at n k = 48 + (n / 10 ^ k) % 10

-- a number of millionths below ten million, with a point before its last six digits
abbrev pub decimals_of : ℕ → List ℕ
decimals_of n =
    digit_at n 6 ∷ 46 ∷ digit_at n 5 ∷ digit_at n 4 ∷ digit_at n 3 ∷ digit_at n 2 ∷ digit_at n 1 ∷
    digit_at n 0 ∷ []

abbrev pub six_decimals : ℕ → ℕ → List ℕ
six_decimals numerator denominator = decimals_of (millionths numerator denominator)
