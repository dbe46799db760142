-- Worked rows of the definitions, by computation.
use Rattle.std.proofs.Common.{◌≡◌, [], ◌∷◌, refl}
use Rattle.table_reader.specs.TableLayout.{TableData}
use Rattle.table_sums.specs.declared.TheConstants.{MOST_SCORE}
use Rattle.table_sums.specs.Tables.{column_sums, columns_in, observed_labels, row_sums}

-- the greatest score that a list may have
most_score : MOST_SCORE ≡ 1000000000
most_score = refl

-- the rows 2 0 0 and 0 1 1
abbrev wide : TableData
wide = record { rows = 2; columns = 3; cells = 2 ∷ 0 ∷ 0 ∷ 0 ∷ 1 ∷ 1 ∷ [] }

wide_rows : row_sums wide ≡ 2 ∷ 2 ∷ []
wide_rows = refl

wide_columns : column_sums wide ≡ 2 ∷ 1 ∷ 1 ∷ []
wide_columns = refl

wide_by_columns : columns_in wide ≡ (2 ∷ 0 ∷ []) ∷ (0 ∷ 1 ∷ []) ∷ (0 ∷ 1 ∷ []) ∷ []
wide_by_columns = refl

wide_labels : observed_labels wide ≡ 0 ∷ 0 ∷ 1 ∷ 1 ∷ []
wide_labels = refl
