-- What the rows of a table say of its weight. The weight is the product of the columns' factorials
-- over that of the cells' factorials, and the cells can be taken row by row.
use Rattle.std.specs.Prelude.{◌≡◌, ℕ, zero, suc, ◌*◌, ◌/◌, nat_le, List, length}
use Rattle.std.specs.Int.{div_ceil}
use Rattle.weights.specs.InOrder.{in_order}
use Rattle.completion_bounds.specs.Fillings.{evenly_divided, falling, filled_in_turn, product_by}
use Rattle.row_products.specs.declared.bounds.RowBounds.{RowBounds}

abbrev pub factorial : ℕ → ℕ
factorial zero = 1
factorial (suc n) = suc n * factorial n

-- The product of the factorials of a row's cells is greatest where the greatest columns are filled
-- first,
abbrev pub greatest_product : List ℕ → ℕ → ℕ
greatest_product columns row = product_by factorial (filled_in_turn row (falling columns))

-- and least where the row is divided most evenly over the columns.
abbrev pub least_product : ℕ → ℕ → ℕ
least_product columns row = product_by factorial (evenly_divided row columns)

-- the columns' factorials over the greatest products of the rows, rounded up,
abbrev pub least_by_rows : List ℕ → List ℕ → ℕ
least_by_rows rows columns =
    div_ceil (product_by factorial columns) (product_by (greatest_product columns) rows)

-- and over their least products, rounded down
abbrev pub greatest_by_rows : List ℕ → List ℕ → ℕ
greatest_by_rows rows columns =
    product_by factorial columns / product_by (least_product (length columns)) rows

abbrev pub bounds_by_rows : List ℕ → List ℕ → RowBounds
bounds_by_rows rows columns = record {
  least = least_by_rows rows columns;
  greatest = greatest_by_rows rows columns;
}

-- columns with the least first
abbrev pub IsRising : List ℕ → Type 0
IsRising columns = in_order nat_le columns ≡ columns
