-- Worked rows of the definitions, by computation.
use Rattle.std.proofs.Common.{◌≡◌, ℕ, [], ◌∷◌, refl}
use Rattle.std.specs.Prelude.{pos}
use Rattle.weights.specs.Conditional.{numerator, observed_statistic, total}
use Rattle.weights.specs.Numbers.{binomial}
use Rattle.weights.specs.declared.tails.Tail.TheVariants.{Less, Greater}
use Rattle.networks.specs.Opened.{opened_below}
use Rattle.table_reader.specs.TableLayout.{TableData}
use Rattle.two_by_two.specs.FisherOdds.{WeightedTable, odds_test}
use Rattle.two_by_two.specs.OddsNetworks.{odds_network}
use Rattle.two_by_two.specs.OddsSteps.{cells_weight, weighted_of}

-- the rows 3 1 and 1 3
abbrev square : TableData
square = record { rows = 2; columns = 2; cells = 3 ∷ 1 ∷ 1 ∷ 3 ∷ [] }

-- that square with odds
abbrev tea : ℕ → ℕ → WeightedTable
tea above below = weighted_of square (record { above = above; below = below })

two_to_one_statistic : observed_statistic (odds_test (tea 2 1)) ≡ pos 3
two_to_one_statistic = refl

two_to_one_total : total (odds_test (tea 2 1)) ≡ 321
two_to_one_total = refl

two_to_one_less : numerator (odds_test (tea 2 1)) Less ≡ 305
two_to_one_less = refl

two_to_one_greater : numerator (odds_test (tea 2 1)) Greater ≡ 144
two_to_one_greater = refl

two_to_one_cells : cells_weight (tea 2 1).odds 4 4 4 ≡ 321
unfolding binomial
two_to_one_cells = refl

three_to_two_total : total (odds_test (tea 3 2)) ≡ 2641
three_to_two_total = refl

three_to_two_less : numerator (odds_test (tea 3 2)) Less ≡ 2560
three_to_two_less = refl

three_to_two_greater : numerator (odds_test (tea 3 2)) Greater ≡ 945
three_to_two_greater = refl

even_total : total (odds_test (tea 1 1)) ≡ 70
even_total = refl

even_less : numerator (odds_test (tea 1 1)) Less ≡ 69
even_less = refl

even_greater : numerator (odds_test (tea 1 1)) Greater ≡ 17
even_greater = refl

-- after the first column the cell is known: the first key alone is open
tea_open : opened_below (odds_network (tea 2 1) Greater) Greater 2 ≡ 1
tea_open = refl
