-- Sums of squares with factors over a box: a range for each number of a point.
use Rattle.std.specs.Prelude.{ℕ, ℤ, pos, ◌+◌, ◌*◌, ◌≤◌, ◌≤ℤ◌, min, max, ◌&&◌, int_le, unsigned_abs, List, [], ◌∷◌, if◌then◌else◌}

-- the sum of the factors times the squares
abbrev pub factored_squares : List ℤ → List ℕ → ℕ
factored_squares [] factors = 0
factored_squares (x ∷ point) [] = 0
factored_squares (x ∷ point) (factor ∷ factors) =
    factor * (unsigned_abs x * unsigned_abs x) + factored_squares point factors

-- each number of the point is in its range
abbrev pub IsInBox : List ℤ → List ℤ → List ℤ → Type 0
IsInBox [] [] [] = Unit {0}
IsInBox (low ∷ lows) (high ∷ highs) (x ∷ point) =
    (low ≤ℤ x) × (x ≤ℤ high) × IsInBox lows highs point
IsInBox lows highs point = ⊥

-- the least absolute value of a number from low to high, 0 where the range holds 0
abbrev pub least_size : ℤ → ℤ → ℕ
least_size low high =
    if int_le low (pos 0) && int_le (pos 0) high then 0
    else min (unsigned_abs low) (unsigned_abs high)

-- the greatest absolute value of a number from low to high, which is that of an end
abbrev pub greatest_size : ℤ → ℤ → ℕ
greatest_size low high = max (unsigned_abs low) (unsigned_abs high)

-- the sum of the factors times the least squares
abbrev pub least_squares : List ℤ → List ℤ → List ℕ → ℕ
least_squares [] highs factors = 0
least_squares (low ∷ lows) [] factors = 0
least_squares (low ∷ lows) (high ∷ highs) [] = 0
least_squares (low ∷ lows) (high ∷ highs) (factor ∷ factors) =
    factor * (least_size low high * least_size low high) + least_squares lows highs factors

-- the sum of the factors times the greatest squares
abbrev pub greatest_squares : List ℤ → List ℤ → List ℕ → ℕ
greatest_squares [] highs factors = 0
greatest_squares (low ∷ lows) [] factors = 0
greatest_squares (low ∷ lows) (high ∷ highs) [] = 0
greatest_squares (low ∷ lows) (high ∷ highs) (factor ∷ factors) =
    factor * (greatest_size low high * greatest_size low high) + greatest_squares lows highs factors

-- each point of the box whose sum is at most the cap has it between these two
abbrev pub HoldsSquares : List ℤ → List ℤ → List ℕ → ℕ → ℕ → ℕ → Type 0
HoldsSquares lows highs factors cap least greatest =
    (point : List ℤ) → IsInBox lows highs point → factored_squares point factors ≤ cap →
    (least ≤ factored_squares point factors) × (factored_squares point factors ≤ greatest)
