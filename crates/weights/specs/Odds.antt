-- Odds: ratios of two small numbers, and what a rearrangement weighs by them. Of n subjects each of
-- the x that are counted weighs the one number, and each other the other one; so tables with given
-- sums of rows and columns have the noncentral distribution (Fisher, The Logic of Inductive
-- Inference, Journal of the Royal Statistical Society 98, 1935).
use Rattle.std.specs.Prelude.{ℕ, ◌-◌, ◌*◌, ◌^◌, ◌<◌, ◌≤◌}
use Rattle.weights.specs.declared.odds.Odds.{Odds}

abbrev pub odds_weight : Odds → ℕ → ℕ → ℕ
odds_weight odds n x = odds.above ^ x * odds.below ^ (n - x)

-- both numbers are from 1 to 1000
pub record IsOdds (odds : Odds) : Type 0 where
  pub above_some : 1 ≤ odds.above
  pub below_some : 1 ≤ odds.below
  pub above_few : odds.above ≤ 1000
  pub below_few : odds.below ≤ 1000

-- how often limits may miss: the ratio is a part, less than all
pub record IsMiss (miss : Odds) : Type 0 where
  pub some : 1 ≤ miss.above
  pub part : miss.above < miss.below
  pub small : miss.below ≤ 1000
