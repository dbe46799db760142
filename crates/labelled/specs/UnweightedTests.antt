-- A test whose rearrangements all weigh 1 and whose tails all go by its statistic.
use Rattle.std.specs.Prelude.{◌≡◌, ℕ, ◌≤◌, List}
use Rattle.weights.specs.Conditional.{ConditionalTest, total}
use Rattle.weights.specs.Frames.{IsShown, RulesFit}
use Rattle.weights.specs.Rules.{measured}
use Rattle.weights.specs.declared.TheConstants.{MAX}
use Rattle.weights.specs.declared.tails.Tail.{Tail}
use Rattle.networks.specs.Follows.{Follows}
use Rattle.networks.specs.Network.{Network}
use Rattle.networks.specs.Written.{RunsFor}

-- What is known of one that can be answered: no number of it passes a limit, and for each tail a
-- network n follows it and runs for q, the one that is written down.
pub record CanBeAnswered (test : ConditionalTest) (n q : Network) : Type 0 where
  pub unweighted : (r : List ℕ) → test.weight r ≡ 1
  pub by_statistic : (tail : Tail) (r : List ℕ) → measured test tail r ≡ test.statistic r
  pub shown : IsShown test
  pub rules_fit : RulesFit test
  pub some : 1 ≤ total test
  pub total_fits : total test ≤ MAX
  pub follows : (tail : Tail) → Follows test tail n
  pub written : (tail : Tail) → RunsFor n q tail
