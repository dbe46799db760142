-- Those who are left, in place of those who are drawn: where their scores sum to a value, those of
-- the drawn ones sum to what it lacks to the sum of all.
use Rattle.std.specs.Prelude.{◌≡◌, ℤ, ◌-ℤ◌, ◌≤◌, unsigned_abs}
use Rattle.weights.specs.declared.TheConstants.{MAX}
use Rattle.score_convolution.specs.declared.sides.Sides.{Sides}
use Rattle.score_convolution.specs.Sides.{AreOrdered, is_in}

-- the sides for those who are left: a sum of theirs within the limit is on them where that of the
-- drawn ones is on the sides
pub record AreLeftSides (total : ℤ) (sides left : Sides) : Type 0 where
  pub ordered : AreOrdered sides → AreOrdered left
  pub pass : (v : ℤ) → unsigned_abs v ≤ MAX → is_in left v ≡ is_in sides (total -ℤ v)
