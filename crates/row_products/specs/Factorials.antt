-- The factorials that the bodies keep.
use Rattle.std.specs.Prelude.{◌≡◌, ℕ, ◌+◌, ◌<◌, min, List, length, get_or}
use Rattle.weights.specs.declared.TheConstants.{MAX}
use Rattle.row_products.specs.RowProducts.{factorial}

-- a number cut off above the greatest weight
abbrev pub cut : ℕ → ℕ
cut n = min n (MAX + 1)

-- those of the first numbers, each cut off
pub record AreFactorials (long : ℕ) (factorials : List ℕ) : Type 0 where
  pub long_is : length factorials ≡ long
  pub each : (n : ℕ) → n < long → get_or factorials n 0 ≡ cut (factorial n)
