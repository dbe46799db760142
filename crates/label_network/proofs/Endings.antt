-- What a measure makes of a whole table, and of a labelling of single subjects.
use Rattle.std.specs.Prelude.{ℕ, ◌+◌, ℤ, List, [], ◌∷◌, length}
use Rattle.weights.specs.Grouped.{columns_of, minus}
use Rattle.label_network.specs.Meanings.{Meaning}

-- where the columns from stage g on lead sizes and a partial
abbrev pub partial_after : Meaning → ℕ → List ℕ → List ℤ → List (List ℕ) → List ℤ
partial_after m g r p [] = p
partial_after m g r p (c ∷ cs) = partial_after m (g + 1) (minus r c) (m.advance g r c p) cs

abbrev pub table_value : Meaning → List (List ℕ) → ℤ
table_value m table = m.value (partial_after m 0 m.rows m.first table)

-- the value of a labelling, whose subjects come column by column
abbrev pub labelling_value : Meaning → List ℕ → ℤ
labelling_value m xs = table_value m (columns_of (length m.rows) m.columns xs)
