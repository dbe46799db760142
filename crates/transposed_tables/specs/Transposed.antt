-- A table transposed: its rows and its columns change places.
use Rattle.std.specs.Prelude.{ℕ, List, [], ◌∷◌, replicate}

-- each item before the line at its place
abbrev pub fronted : List ℕ → List (List ℕ) → List (List ℕ)
fronted [] lines = []
fronted (a ∷ x) [] = []
fronted (a ∷ x) (line ∷ lines) = (a ∷ line) ∷ fronted x lines

-- the rows of a table that is given by its columns, each with a count for each of so many rows
abbrev pub transposed : ℕ → List (List ℕ) → List (List ℕ)
transposed rows [] = replicate rows []
transposed rows (x ∷ table) = fronted x (transposed rows table)
