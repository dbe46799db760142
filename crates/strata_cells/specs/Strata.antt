-- Strata, each a table of two rows and two columns, and the labellings of their subjects.
use Rattle.std.specs.Prelude.{ℕ, zero, suc, ◌+◌, ◌-◌, ◌*◌, ◌/◌, List, [], ◌∷◌, ◌++◌, length, map}
use Rattle.std.specs.Prelude.{take, drop, min, nat_eq, replicate, slice_index, slice_index_or}
use Rattle.std.specs.List.{count_by, range_with_len}
use Rattle.weights.specs.Numbers.{binomial}
use Rattle.enumerate.specs.Joined.{joined_labellings}
use Rattle.strata_cells.specs.declared.stratum.Stratum.{Stratum}

-- the table with the rows a b and c d
abbrev pub stratum_of : List ℕ → Stratum
stratum_of cells = record {
  a = slice_index cells 0;
  b = slice_index cells 1;
  c = slice_index cells 2;
  d = slice_index cells 3;
}

-- so many strata, four cells for each
abbrev pub strata_of_cells : ℕ → List ℕ → List Stratum
strata_of_cells zero cells = []
strata_of_cells (suc n) cells = stratum_of (take 4 cells) ∷ strata_of_cells n (drop 4 cells)

abbrev pub strata_of : List ℕ → List Stratum
strata_of cells = strata_of_cells (length cells / 4) cells

-- how many subjects a stratum has, in all, in each row, and in its first column
abbrev pub size : Stratum → ℕ
size s = s.a + s.b + s.c + s.d

abbrev pub first_row : Stratum → ℕ
first_row s = s.a + s.b

abbrev pub second_row : Stratum → ℕ
second_row s = s.c + s.d

abbrev pub first_column : Stratum → ℕ
first_column s = s.a + s.c

-- the least and the greatest first cell of tables with the same sums of rows and columns
abbrev pub least_cell : Stratum → ℕ
least_cell s = first_row s + first_column s - size s

abbrev pub greatest_cell : Stratum → ℕ
greatest_cell s = min (first_row s) (first_column s)

-- of some strata, by its place
abbrev pub stratum_at : List Stratum → ℕ → Stratum
stratum_at strata place = slice_index_or strata place (record { a = 0; b = 0; c = 0; d = 0 })

-- ---- labellings

-- how many subjects have each label: those of each row have its number
abbrev pub row_counts : Stratum → List ℕ
row_counts s = first_row s ∷ second_row s ∷ []

-- all ways to label the subjects of strata, in the order of their columns, by their rows: those of
-- each, followed by those of the next
abbrev pub strata_labellings : List Stratum → List (List ℕ)
strata_labellings strata = joined_labellings (map row_counts strata)

-- the labels of a stratum as it is, column by column
abbrev pub own_labels : Stratum → List ℕ
own_labels s = (replicate s.a 0 ++ replicate s.c 1) ++ (replicate s.b 0 ++ replicate s.d 1)

-- ---- first cells

-- the first cell of the table that a stratum's labels give: its first column's subjects with the
-- first row's label
abbrev pub stratum_cell : Stratum → List ℕ → ℕ
stratum_cell s labels = count_by (λ l. nat_eq l 0) (take (first_column s) labels)

-- that of each stratum
abbrev pub cells_of : List Stratum → List ℕ → List ℕ
cells_of [] labels = []
cells_of (s ∷ strata) labels = stratum_cell s labels ∷ cells_of strata (drop (size s) labels)

-- the sum of the first cells of all strata
abbrev pub first_cells : List Stratum → List ℕ → ℕ
first_cells [] labels = 0
first_cells (s ∷ strata) labels = stratum_cell s labels + first_cells strata (drop (size s) labels)

-- how many labellings give a first cell: so many of the first column's subjects, and of the
-- others, are in the first row
abbrev pub cell_weight : Stratum → ℕ → ℕ
cell_weight s x =
    binomial (first_column s) x * binomial (size s - first_column s) (first_row s - x)

-- the first cells that a stratum's labellings give
abbrev pub cells_in : Stratum → List ℕ
cells_in s = range_with_len (least_cell s) (greatest_cell s + 1 - least_cell s)

-- how many labellings of the strata give these first cells
abbrev pub cells_weight : List Stratum → List ℕ → ℕ
cells_weight [] cells = 1
cells_weight (s ∷ strata) cells =
    cell_weight s (slice_index cells 0) * cells_weight strata (drop 1 cells)
