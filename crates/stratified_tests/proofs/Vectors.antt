-- Worked rows of the definition, by computation.
use Rattle.std.specs.Prelude.{◌≡◌, ℕ, pos, List, [], ◌∷◌, Some, None}
use Rattle.std.proofs.Common.{refl}
use Rattle.weights.specs.Conditional.{numerator, observed_statistic, total}
use Rattle.weights.specs.Numbers.{lcm}
use Rattle.weights.specs.declared.tails.Tail.TheVariants.{Less, Greater, Two}
use Rattle.stratified_tests.specs.StrataTests.{StrataData, data_of, strata_test}

-- two strata: 3 1 and 1 3, and 2 0 and 0 2
abbrev cells : List ℕ
cells = 3 ∷ 1 ∷ 1 ∷ 3 ∷ 2 ∷ 0 ∷ 0 ∷ 2 ∷ []

abbrev worked : StrataData
worked = data_of None cells

worked_statistic : observed_statistic (strata_test worked) ≡ pos 5
worked_statistic = refl

worked_total : total (strata_test worked) ≡ 420
worked_total = refl

worked_bound : (strata_test worked).bound ≡ 96
unfolding lcm
worked_bound = refl

worked_less : numerator (strata_test worked) Less ≡ 419
worked_less = refl

worked_greater : numerator (strata_test worked) Greater ≡ 21
worked_greater = refl

worked_two : numerator (strata_test worked) Two ≡ 42
unfolding lcm
worked_two = refl

-- the same with the odds 2/1
abbrev by_odds : StrataData
by_odds = data_of (Some (record { above = 2; below = 1 })) cells

odds_statistic : observed_statistic (strata_test by_odds) ≡ pos 5
odds_statistic = refl

odds_total : total (strata_test by_odds) ≡ 4173
odds_total = refl

odds_less : numerator (strata_test by_odds) Less ≡ 4109
odds_less = refl

odds_greater : numerator (strata_test by_odds) Greater ≡ 704
odds_greater = refl
