-- Words for the bodies: bounds and sums that pass no limit.
use Rattle.std.specs.Prelude.{ℕ, ◌*◌, ◌≡◌, ◌≤◌, ◌<◌, ◌≤ℤ◌, ◌^◌, ℤ, pos, nat_abs, List, get_or, length}
use Rattle.networks.specs.Distances.{square_limit}
use Rattle.networks.specs.declared.distances.SquareBounds.{SquareBounds}

-- a statistic of at most 2 ^ 60
abbrev pub IsSmall : ℤ → Type 0
IsSmall v = (pos 0 ≤ℤ v) × (v ≤ℤ pos (2 ^ 60))

pub record AreSmallBounds (b : SquareBounds) : Type 0 where
  pub near : b.near ≤ 8 * square_limit
  pub far : b.far ≤ 8 * square_limit

-- sums after a number more
pub record AreGained (sums : List ℤ) : Type 0 where
  pub each : (i : ℕ) → i < length sums
      → get_or sums i (pos 0) ≡ pos (nat_abs (get_or sums i (pos 0)))
  pub small : (i : ℕ) → i < length sums → nat_abs (get_or sums i (pos 0)) ≤ 3000000
