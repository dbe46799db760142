-- Labellings seen by columns: how many subjects of each column have each label. A table is the list
-- of these counts.
use Rattle.std.specs.Prelude.{◌≡◌, ℕ, ◌+◌, ◌-◌, ◌*◌, List, [], ◌∷◌, length, take, drop, map, min, Bool, nat_eq, nat_le, if◌then◌else◌}
use Rattle.std.specs.List.{flat_map, filter, sum_by, range_with_len}
use Rattle.std.specs.Cmp.Lexicographic.{pointwise}
use Rattle.weights.specs.Labellings.{counts_of, labellings, number_of_labellings}

-- no count is greater than the size that remains
abbrev pub fits : List ℕ → List ℕ → Bool
fits x r = pointwise nat_le x r

-- the sizes that remain after a choice of counts
abbrev pub minus : List ℕ → List ℕ → List ℕ
minus [] x = []
minus (r ∷ rs) [] = r ∷ rs
minus (r ∷ rs) (a ∷ x) = (r - a) ∷ minus rs x

-- the counts, one for each row, that sum to c and fit the sizes that remain, in lexicographic order
abbrev pub choices : ℕ → List ℕ → List (List ℕ)
choices c [] = if nat_eq c 0 then [] ∷ [] else []
choices c (r ∷ rs) =
    flat_map (λ a. map (λ x. a ∷ x) (choices (c - a) rs)) (range_with_len 0 (min c r + 1))

-- the tables with these sums of columns and of rows, column by column
abbrev pub tables : List ℕ → List ℕ → List (List (List ℕ))
tables [] r = [] ∷ []
tables (c ∷ cs) r = flat_map (λ x. map (λ w. x ∷ w) (tables cs (minus r x))) (choices c r)

-- the weight of a table: the product of the columns' numbers of labellings
abbrev pub table_weight : List (List ℕ) → ℕ
table_weight [] = 1
table_weight (x ∷ w) = number_of_labellings x * table_weight w

-- the table that a labelling with k labels gives, where the columns are consecutive subjects
abbrev pub columns_of : ℕ → List ℕ → List ℕ → List (List ℕ)
columns_of k [] xs = []
columns_of k (c ∷ cs) xs = counts_of k (take c xs) ∷ columns_of k cs (drop c xs)

-- whether two tables are the same
abbrev pub same_table : List (List ℕ) → List (List ℕ) → Bool
same_table w u = pointwise (pointwise nat_eq) w u

-- how many labellings of the rows give a table
abbrev pub labellings_giving : List (List ℕ) → List ℕ → List ℕ → ℕ
labellings_giving table columns rows =
    length (filter (λ xs. same_table table (columns_of (length rows) columns xs)) (labellings rows))

-- the grouping law: for every function of a table, its sum over the tables, each weighed, is its
-- sum over the labellings
abbrev pub IsGrouping : List ℕ → List ℕ → Type 0
IsGrouping columns rows =
    (f : List (List ℕ) → ℕ) → sum_by (λ table. table_weight table * f table) (tables columns rows)
    ≡ sum_by (λ xs. f (columns_of (length rows) columns xs)) (labellings rows)
