-- What holds of the tables with some sums of columns and rows, and of the tables transposed.
use Rattle.std.specs.Prelude.{◌≡◌, ℕ, ◌*◌, List, length, nat_le}
use Rattle.std.specs.List.{sum_by}
use Rattle.weights.specs.Grouped.{tables, table_weight}
use Rattle.weights.specs.Labellings.{number_of_labellings}
use Rattle.transposed_tables.specs.Transposed.{transposed}

-- every sum over the transposed tables is the sum over the tables of the function transposed
abbrev pub IsTransposing : List ℕ → List ℕ → Type 0
IsTransposing columns rows =
    (f : List (List ℕ) → ℕ) →
    sum_by (λ table. f (transposed (length rows) table)) (tables columns rows)
    ≡ sum_by f (tables rows columns)

-- two tables weigh as the rows and the columns have labellings
abbrev pub AreWeights : List ℕ → List ℕ → List (List ℕ) → List (List ℕ) → Type 0
AreWeights columns rows table other =
    table_weight table * number_of_labellings columns
    ≡ table_weight other * number_of_labellings rows

-- two tables of so many rows compare as the two tables transposed do
abbrev pub ComparesTransposed : ℕ → List (List ℕ) → List (List ℕ) → Type 0
ComparesTransposed rows table other =
    nat_le (table_weight table) (table_weight other)
    ≡ nat_le (table_weight (transposed rows table)) (table_weight (transposed rows other))
