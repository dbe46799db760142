-- One digit of a quotient.
use Rattle.std.specs.Prelude.{◌≡◌, ◌<◌, ℕ, ◌+◌, ◌*◌}

-- ten times a remainder is so many denominators and a remainder below one
pub record IsTenth (rest denominator digit left : ℕ) : Type 0 where
  pub is : 10 * rest ≡ digit * denominator + left
  pub below : left < denominator
  pub small : digit < 10
