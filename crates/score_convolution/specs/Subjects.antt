-- How far apart scores lie, in which order they stand, and what the least of them sum to.
use Rattle.std.specs.Prelude.{ℕ, ℤ, ◌-ℤ◌, ◌≤ℤ◌, ◌<◌, ◌≤◌, List, length, take, get_or, unsigned_abs}
use Rattle.std.specs.Prelude.{Contains}
use Rattle.std.specs.Int.{◌∣◌}
use Rattle.score_convolution.specs.Draws.{score_total}

-- every two scores are a multiple of this apart
abbrev pub AreApart : ℕ → List ℤ → Type 0
AreApart d scores = (a b : ℤ) → Contains scores a → Contains scores b → d ∣ unsigned_abs (a -ℤ b)

-- they stand in ascending order
abbrev pub Ascend : List ℤ → Type 0
Ascend scores = (i j : ℕ) (d : ℤ) → i ≤ j → j < length scores
    → get_or scores i d ≤ℤ get_or scores j d

-- the sum of the so many least of ascending scores
abbrev pub least : ℕ → List ℤ → ℤ
least n scores = score_total (take n scores)
