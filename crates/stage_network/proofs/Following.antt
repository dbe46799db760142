-- The spread of a network that follows a test is the test's distribution.
use Rattle.std.proofs.Common.{◌≡◌, List, ◌∙◌, ap}
use Rattle.std.specs.List.{sum_by}
use Rattle.weights.specs.declared.lines.Line.{Line}
use Rattle.weights.specs.Conditional.{ConditionalTest, distribution}
use Rattle.weights.specs.Frames.{IsShown, first_tail}
use Rattle.weights.specs.Rules.{measured}
use Rattle.weights.proofs.Filters.{filter-same}
use Rattle.networks.specs.Completions.{value_weights}
use Rattle.networks.specs.Follows.{Follows}
use Rattle.networks.specs.Lines.{IsSpreadOf}
use Rattle.networks.specs.Network.{Network}
use Rattle.stage_network.proofs.DistributionLines.{spread-is}

pub spread-follows : (test : ConditionalTest) → IsShown test → (n : Network) → Follows test (first_tail test) n → (lines : List Line) → IsSpreadOf (value_weights n) lines → lines ≡ distribution test
spread-follows test shown n f lines s =
    spread-is test lines shown.weighty (record {
      ascending = s.ascending;
      positive = s.positive;
      told = λ p. s.told p ∙ f.ends p ∙ ap (sum_by test.weight) (filter-same (λ r. p (measured test (first_tail test) r)) (λ r. p (test.statistic r)) (λ r. ap p (shown.statistic_is r)) test.reference);
    })
