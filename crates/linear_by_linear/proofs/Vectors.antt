-- Worked rows of the definitions, by computation.
use Rattle.std.proofs.Common.{◌≡◌, [], ◌∷◌, refl}
use Rattle.std.specs.Prelude.{pos, negsuc}
use Rattle.weights.specs.Conditional.{numerator, observed_statistic}
use Rattle.weights.specs.declared.tails.Tail.TheVariants.{Less, Greater, Two}
use Rattle.table_reader.specs.TableLayout.{TableData}
use Rattle.linear_by_linear.specs.LinearByLinear.{ScoredTable, linear_test}

-- the rows 2 0 0 and 0 1 1
abbrev wide : TableData
wide = record { rows = 2; columns = 3; cells = 2 ∷ 0 ∷ 0 ∷ 0 ∷ 1 ∷ 1 ∷ [] }

-- with the scores -1 and 1 of the rows, and 0, 1 and 3 of the columns
abbrev scored : ScoredTable
scored = record { table = wide; row_scores = negsuc 0 ∷ pos 1 ∷ []; column_scores = pos 0 ∷ pos 1 ∷ pos 3 ∷ [] }

scored_statistic : observed_statistic (linear_test scored) ≡ pos 4
scored_statistic = refl

scored_bound : (linear_test scored).bound ≡ 96
scored_bound = refl

scored_less : numerator (linear_test scored) Less ≡ 6
scored_less = refl

scored_greater : numerator (linear_test scored) Greater ≡ 1
scored_greater = refl

scored_two : numerator (linear_test scored) Two ≡ 2
scored_two = refl
