-- How far numbers are from a centre, and the squares of these distances.
use Rattle.std.specs.Prelude.{ℕ, ◌+◌, ◌-◌, ◌*◌, ◌^◌, max}

abbrev pub squared : ℕ → ℕ
squared n = n * n

-- how far the numbers from one to another are from a centre at least, and at most
abbrev pub nearest : ℕ → ℕ → ℕ → ℕ
nearest q low high = (low - q) + (q - high)

abbrev pub farthest : ℕ → ℕ → ℕ → ℕ
farthest q low high = max (q - low) (high - q)

-- the squares of these distances
abbrev pub near_square : ℕ → ℕ → ℕ → ℕ
near_square q low high = squared (nearest q low high)

abbrev pub far_square : ℕ → ℕ → ℕ → ℕ
far_square q low high = squared (farthest q low high)

-- the correction for the mean: what the squares of k numbers that add up to a total have beside
-- those of their distances from q
abbrev pub correction : ℕ → ℕ → ℕ → ℕ
correction k q total = 2 * (q * total) - k * squared q

-- the greatest sum whose squares are added in 64 bits, and what is computed of such sums at most
abbrev pub sum_limit : ℕ
sum_limit = 2 ^ 25

abbrev pub distance_limit : ℕ
distance_limit = 2 ^ 26

abbrev pub square_limit : ℕ
square_limit = squared distance_limit

abbrev pub correction_limit : ℕ
correction_limit = 2 * squared sum_limit
