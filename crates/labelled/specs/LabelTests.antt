-- A test of labellings: subjects are labelled anew, as many with each label as before, and both
-- sides go by how far the statistic is from a centre.
use Rattle.std.specs.Prelude.{◌≡◌, ⊤, ℕ, ℤ, ◌≤◌, ◌<◌, List, Contains, Bool, true, length}
use Rattle.weights.specs.declared.tails.Tail.{Tail}
use Rattle.weights.specs.declared.rules.Rule.TheVariants.{Far}
use Rattle.weights.specs.declared.TheConstants.{MAX}
use Rattle.weights.specs.declared.wide.WideOf.TheVariants.{Total, Statistic}
use Rattle.weights.specs.declared.wide.PrepareFault.{PrepareFault}
use Rattle.weights.specs.declared.wide.PrepareFault.TheVariants.{TooWide, NoMemory}
use Rattle.weights.specs.Conditional.{ConditionalTest, by_distance, unit_weight}
use Rattle.weights.specs.Frames.{first_tail}
use Rattle.weights.specs.Labellings.{labellings, number_of_labellings}
use Rattle.weights.specs.Rules.{RuleFits}
use Rattle.networks.specs.Follows.{Follows}
use Rattle.networks.specs.Network.{Network}
use Rattle.networks.specs.Written.{RunsFor}

-- How many subjects get each label, what is measured of a labelling, and the observed one. Both
-- sides go by how far the factor times the statistic is from the centre.
pub record LabelTest : Type 0 where
  pub sizes : List ℕ
  pub statistic : List ℕ → ℤ
  pub observed : List ℕ
  pub tails : Tail → Bool
  pub factor : ℕ
  pub centre : ℤ
  pub scale : ℕ
  pub bound : ℕ

-- all labellings of the sizes weigh 1
abbrev pub label_test : LabelTest → ConditionalTest
label_test t = record {
  reference = labellings t.sizes;
  statistic = t.statistic;
  observed = t.observed;
  weight = unit_weight;
  has_tail = t.tails;
  two_sided = by_distance t.factor t.centre;
  scale = t.scale;
  bound = t.bound;
}

-- few labels and a total within the limit, an observed labelling, and rules that compute no number
-- that passes a limit
pub record IsWithin (t : LabelTest) : Type 0 where
  pub few : length t.sizes ≤ 256
  pub total_fits : number_of_labellings t.sizes ≤ MAX
  pub shown : t.tails (first_tail (label_test t)) ≡ true
  pub observed : Contains (labellings t.sizes) t.observed
  pub fits : (xs : List ℕ)
      → Contains (labellings t.sizes) xs → RuleFits (Far t.factor t.centre 0) (t.statistic xs)

-- and for each tail a network n that follows the test, and runs for q, the one that is written down
pub record IsSound (t : LabelTest) (n q : Network) : Type 0 where
  pub within : IsWithin t
  pub follows : (tail : Tail) → Follows (label_test t) tail n
  pub written : (tail : Tail) → RunsFor n q tail

-- a test whose total passes no limit is refused where its bound passes one, and for want of memory
abbrev pub IsRefusedBy : ℕ → PrepareFault → Type 0
IsRefusedBy bound (TooWide Total) = ⊥
IsRefusedBy bound (TooWide Statistic) = MAX < bound
IsRefusedBy bound NoMemory = ⊤
