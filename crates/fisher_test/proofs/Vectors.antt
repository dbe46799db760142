-- Worked rows of the definitions, by computation.
use Rattle.std.proofs.Common.{◌≡◌, [], ◌∷◌, refl}
use Rattle.std.specs.Prelude.{pos}
use Rattle.weights.specs.Conditional.{distribution, numerator, observed_statistic, total}
use Rattle.weights.specs.declared.tails.Tail.TheVariants.{Less, Greater, Two}
use Rattle.networks.specs.Opened.{opened_below}
use Rattle.table_reader.specs.TableLayout.{TableData}
use Rattle.fisher_test.specs.FisherExact.{fisher_test}
use Rattle.fisher_test.specs.FisherNetworks.{fisher_network}

-- the rows 3 1 and 1 3
abbrev square : TableData
square = record { rows = 2; columns = 2; cells = 3 ∷ 1 ∷ 1 ∷ 3 ∷ [] }

-- the rows 2 0 0 and 0 1 1
abbrev wide : TableData
wide = record { rows = 2; columns = 3; cells = 2 ∷ 0 ∷ 0 ∷ 0 ∷ 1 ∷ 1 ∷ [] }

square_statistic : observed_statistic (fisher_test square) ≡ pos 3
square_statistic = refl

square_total : total (fisher_test square) ≡ 70
square_total = refl

square_less : numerator (fisher_test square) Less ≡ 69
square_less = refl

square_greater : numerator (fisher_test square) Greater ≡ 17
square_greater = refl

square_two : numerator (fisher_test square) Two ≡ 34
square_two = refl

wide_statistic : observed_statistic (fisher_test wide) ≡ pos 1
wide_statistic = refl

wide_scale : (fisher_test wide).scale ≡ 6
wide_scale = refl

wide_two : numerator (fisher_test wide) Two ≡ 2
wide_two = refl

wide_distribution : distribution (fisher_test wide) ≡ record { value = pos 1; weight = 2 } ∷ record { value = pos 2; weight = 4 } ∷ []
wide_distribution = refl

-- the first key alone is open: after the first column each table is as rare, or none is
wide_open : opened_below (fisher_network wide Two) Two 3 ≡ 1
wide_open = refl
