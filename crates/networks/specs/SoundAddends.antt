-- What makes an additive network lawful.
use Rattle.std.specs.Prelude.{◌≡◌, ◌≢◌, ℕ, ◌<◌, ◌≤◌, ◌*◌, pos, ◌≤ℤ◌, nat_abs, List, [], length, AllPairs}
use Rattle.std.specs.List.{Contains, AllByRecursion, sum_by}
use Rattle.weights.specs.declared.TheConstants.{MAX}
use Rattle.networks.specs.declared.additive.CentredSquares.{CentredSquares}
use Rattle.networks.specs.declared.additive.SumValue.{SumValue}
use Rattle.networks.specs.declared.additive.SumValue.TheVariants.{First, Squares}
use Rattle.networks.specs.Distances.{correction, correction_limit, squared, sum_limit}
use Rattle.networks.specs.Judged.{JudgeFits}
use Rattle.networks.specs.Addends.{Addends, zeros, low, high, totals, over_earlier, reach}

-- a choice of stage g adds one number to each sum, from the stage's least to its greatest
pub record AddsBetween (a : Addends) (g : ℕ) (c : List ℕ) : Type 0 where
  pub wide : length (a.adds g c) ≡ a.slots
  pub between : AllByRecursion (λ z. (a.least g ≤ℤ z) × (z ≤ℤ a.most g)) (a.adds g c)

-- No choice lowers a sum, and those of one stage add the same in all: so the squares add up to at
-- most the square of all that is added, and what they have beside those of the distances from a
-- centre is known.
pub record IsSquared (a : Addends) (s : CentredSquares) : Type 0 where
  pub least_some : (g : ℕ) → g < a.count → pos 0 ≤ℤ a.least g
  pub most_some : (g : ℕ) → g < a.count → pos 0 ≤ℤ a.most g
  pub each : ℕ → ℕ
  pub alike : (g : ℕ) → g < a.count
      → AllByRecursion (λ c. sum_by nat_abs (a.adds g c) ≡ each g) (a.choices g)
  pub bounded : over_earlier each a.count * over_earlier each a.count ≤ s.bound
  pub within :
      a.slots * squared s.centre ≤ 2 * (s.centre * over_earlier each a.count)
  pub beside_is : s.beside ≡ correction a.slots s.centre (over_earlier each a.count)
  -- no square that is computed passes MAX
  pub bound_fits : s.bound ≤ MAX
  pub reach_small : reach a ≤ sum_limit
  pub centre_small : s.centre ≤ sum_limit
  pub beside_small : s.beside ≤ correction_limit

abbrev pub IsMeasured : Addends → SumValue → Type 0
IsMeasured a First = a.slots ≡ 1
IsMeasured a (Squares s) = IsSquared a s

pub record IsAdditive (a : Addends) : Type 0 where
  pub slots_some : 1 ≤ a.slots
  pub slots_few : a.slots ≤ 16
  -- a stage has a choice, its choices are all different, each weighs at least 1, and all
  -- completions at most MAX
  pub some_choice : (g : ℕ) → g < a.count → a.choices g ≢ []
  pub different : (g : ℕ) → g < a.count → AllPairs ◌≢◌ (a.choices g)
  pub weighty : (g : ℕ) (c : List ℕ) → g < a.count → Contains (a.choices g) c → 1 ≤ a.weight g c
  pub fits : totals a a.count 0 ≤ MAX
  pub between : (g : ℕ) → g < a.count → AllByRecursion (AddsBetween a g) (a.choices g)
  -- no sum passes MAX
  pub sums_fit : reach a ≤ MAX
  pub measured : IsMeasured a a.value
  -- the rules fit both ends of the first interval
  pub low_fits : JudgeFits a.judge (low a 0 (zeros a))
  pub high_fits : JudgeFits a.judge (high a 0 (zeros a))
