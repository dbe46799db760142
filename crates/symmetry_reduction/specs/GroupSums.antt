-- Sums of groups that are not negative.
use Rattle.std.specs.Prelude.{◌≡◌, ℤ, pos, nat_abs, List}
use Rattle.std.specs.List.{AllByRecursion}

-- no number is negative
abbrev pub AreHeld : List ℤ → Type 0
AreHeld zs = AllByRecursion (λ z. z ≡ pos (nat_abs z)) zs
