-- Which tails the values of a distribution tell.
use Rattle.std.specs.Prelude.{◌≡◌, ℕ, List}
use Rattle.weights.specs.declared.tails.Tail.{Tail}
use Rattle.weights.specs.Conditional.{ConditionalTest}
use Rattle.weights.specs.Rules.{measured}

-- a tail goes by the statistic: this is what it measures of each rearrangement
abbrev pub GoesByStatistic : ConditionalTest → Tail → Type 0
GoesByStatistic test tail = (r : List ℕ) → measured test tail r ≡ test.statistic r
