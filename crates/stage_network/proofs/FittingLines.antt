-- The weights of the lines of a distribution fit, and so do the rules of its test.
use Rattle.std.proofs.Common.{ℕ, ◌≤◌, List, map, ◌∙◌, ap, arith}
use Rattle.std.specs.Prelude.{ℤ, pos, Contains}
use Rattle.std.specs.List.{All, AllByRecursion, sum_by}
use Rattle.std.proofs.lemmas.List.Elements.{All-contains_itself, All-from_recursion, recursion_from_All}
use Rattle.weights.specs.declared.lines.Line.{Line}
use Rattle.weights.specs.declared.rules.Rule.TheVariants.{AtLeast, AtMost}
use Rattle.weights.specs.declared.tails.Tail.TheVariants.{Less, Greater, Two}
use Rattle.weights.specs.declared.TheConstants.{MAX}
use Rattle.weights.specs.Conditional.{ConditionalTest, TwoSided, ascending_values, by_distance, by_rarity, distribution, observed_statistic, total, value_weight}
use Rattle.weights.specs.Frames.{RulesFit}
use Rattle.weights.specs.Rules.{RuleFits, measured_on_both, rule_on_both}
use Rattle.weights.proofs.Centred.{at_least-fits, at_most-fits}
use Rattle.weights.proofs.Filters.{all_map, all_weaker}
use Rattle.networks.specs.Network.{Network}
use Rattle.networks.specs.Completions.{completions, ending_weight, path_weight, total_weight, value_weights}
use Rattle.networks.specs.Lines.{IsSpreadOf, RuleFitsLines, TailsFit, WeightsFit, every}
use Rattle.networks.specs.Follows.{statistic_sums}
use Rattle.stage_network.proofs.DistributionLines.{values-each}
use Rattle.networks.proofs.Flat.{filter-every}

-- all lines weigh as much as all completions, or as all rearrangements

pub network-weighs : (n : Network) → total_weight n 0 n.first ≤ MAX → (lines : List Line) → IsSpreadOf (value_weights n) lines → WeightsFit lines
unfolding ending_weight total_weight
network-weighs n fits lines s = omega (arith, s.told every ∙ ap (sum_by (path_weight n 0 n.first)) (filter-every (completions n 0 n.first)), fits)

pub test-weighs : (test : ConditionalTest) → total test ≤ MAX → (lines : List Line) → IsSpreadOf (statistic_sums test) lines → WeightsFit lines
test-weighs test fits lines s = omega (arith, s.told every ∙ ap (sum_by test.weight) (filter-every test.reference), fits)

-- what holds of the statistic of each rearrangement holds of the value of each line
each-line : (test : ConditionalTest) (P : ℤ → Type 0) → ((r : List ℕ) → Contains test.reference r → P (test.statistic r)) → All (λ line. P line.value) (distribution test)
each-line test P holds =
    let each : AllByRecursion (λ r. P (test.statistic r)) test.reference = all_weaker (Contains test.reference) (λ r. P (test.statistic r)) holds test.reference (recursion_from_All (Contains test.reference) test.reference (All-contains_itself test.reference)) in
    let values = map test.statistic test.reference in
    All-from_recursion (λ (line : Line). P line.value) (distribution test)
    (all_map (λ (line : Line). P line.value) (value_weight test) (ascending_values values) (values-each P values (all_map P test.statistic test.reference each)))

pub tails-fit : (test : ConditionalTest) → RulesFit test → TailsFit test (distribution test)
tails-fit test f Less = each-line test (RuleFits (AtMost (observed_statistic test))) (λ r m. at_most-fits (observed_statistic test) (test.statistic r))
tails-fit test f Greater = each-line test (RuleFits (AtLeast (observed_statistic test))) (λ r m. at_least-fits (observed_statistic test) (test.statistic r))
tails-fit test f Two = sides test.two_sided (λ r m. f.fits Two r m)
  where
    sides : (s : TwoSided) → ((r : List ℕ) → Contains test.reference r → RuleFits (rule_on_both s test) (measured_on_both s test r)) → RuleFitsLines (rule_on_both s test) (distribution test)
    sides (by_distance q c) fits = each-line test (RuleFits (rule_on_both (by_distance q c) test)) fits
    sides (by_rarity rarity) fits = each-line test (RuleFits (AtMost (pos (rarity test.observed)))) (λ r m. at_most-fits (pos (rarity test.observed)) (test.statistic r))
