-- Pairings of the units of rows with the units of columns, and their sums of products.
use Rattle.std.specs.Prelude.{◌≡◌, ℕ, ℤ, pos, ◌*◌, ◌+ℤ◌, ◌*ℤ◌, ◌≤ℤ◌, List, [], ◌∷◌, length, max, nat_le, replicate, unsigned_abs, if◌then◌else◌}
use Rattle.std.specs.List.{flat_map}
use Rattle.std.specs.List.Sorted.{IsPermutation, IsSortedByKey}
use Rattle.std.specs.Ordering.{int_cmp}
use Rattle.completion_bounds.specs.declared.pairings.Part.{Part}
use Rattle.completion_bounds.specs.declared.pairings.Later.{Later}

-- the units of a row: its score as often as it has units
abbrev pub units_of : Part → List ℤ
units_of row = replicate row.count row.score

-- the scores of the units of some rows
abbrev pub row_units : List Part → List ℤ
row_units rows = flat_map units_of rows

-- the units of a column, where its stage is at least this one
abbrev pub units_from : ℕ → Later → List ℤ
units_from from column =
    if nat_le from column.stage then replicate column.count column.score else []

-- the scores of the units of the columns whose stage is at least this one
abbrev pub later_units : ℕ → List Later → List ℤ
later_units from columns = flat_map (units_from from) columns

-- the sum of the products, place by place
abbrev pub paired : List ℤ → List ℤ → ℤ
paired [] ys = pos 0
paired (x ∷ xs) [] = pos 0
paired (x ∷ xs) (y ∷ ys) = (x *ℤ y) +ℤ paired xs ys

-- A pairing of xs with ys is an order of ys. Some pairing gives the sum, and none gives less.
pub record IsLeastPairing (xs ys : List ℤ) (sum : ℤ) : Type 0 where
  pub attained : (zs : List ℤ) × IsPermutation ys zs × (paired xs zs ≡ sum)
  pub lower : (zs : List ℤ) → IsPermutation ys zs → sum ≤ℤ paired xs zs

-- some pairing gives the sum, and none gives more
pub record IsGreatestPairing (xs ys : List ℤ) (sum : ℤ) : Type 0 where
  pub attained : (zs : List ℤ) × IsPermutation ys zs × (paired xs zs ≡ sum)
  pub upper : (zs : List ℤ) → IsPermutation ys zs → paired xs zs ≤ℤ sum

-- the greatest absolute score
abbrev pub greatest_score : List ℤ → ℕ
greatest_score [] = 0
greatest_score (x ∷ xs) = max (unsigned_abs x) (greatest_score xs)

-- the number of pairs times the greatest absolute scores of both sides
abbrev pub pairing_size : List ℤ → List ℤ → ℕ
pairing_size xs ys = length xs * (greatest_score xs * greatest_score ys)

-- rows by ascending score
abbrev pub RowsAscend : List Part → Type 0
RowsAscend rows = IsSortedByKey (λ (row : Part). row.score) int_cmp rows

-- columns by ascending score
abbrev pub ColumnsAscend : List Later → Type 0
ColumnsAscend columns = IsSortedByKey (λ (column : Later). column.score) int_cmp columns
