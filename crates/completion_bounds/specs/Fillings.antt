-- Fillings of a column of a table over its rows, and what they say of the weights of tables.
use Rattle.std.specs.Prelude.{ℕ, ◌+◌, ◌-◌, ◌*◌, ◌/◌, ◌%◌, ◌≤◌, min, Bool, nat_le, length, List, [], ◌∷◌, ◌++◌, replicate, All}
use Rattle.weights.specs.InOrder.{in_order}
use Rattle.weights.specs.Grouped.{tables, table_weight}
use Rattle.weights.specs.Labellings.{number_of_labellings}

-- sizes with the greatest first
abbrev pub is_at_least : ℕ → ℕ → Bool
is_at_least size other = nat_le other size

abbrev pub falling : List ℕ → List ℕ
falling sizes = in_order is_at_least sizes

-- units put into the first row until it is full, then into the next, and so on
abbrev pub filled_in_turn : ℕ → List ℕ → List ℕ
filled_in_turn units [] = []
filled_in_turn units (row ∷ rows) = min row units ∷ filled_in_turn (units - min row units) rows

-- the most even division of units over rows
abbrev pub evenly_divided : ℕ → ℕ → List ℕ
evenly_divided units rows =
    replicate (units % rows) (units / rows + 1) ++ replicate (rows - units % rows) (units / rows)

-- The weight of a column is the number of labellings of its cells.
-- It is least where the greatest rows are filled first,
abbrev pub least_weight : List ℕ → ℕ → ℕ
least_weight margins column = number_of_labellings (filled_in_turn column (falling margins))

-- and greatest where the units are divided most evenly.
abbrev pub greatest_weight : ℕ → ℕ → ℕ
greatest_weight rows column = number_of_labellings (evenly_divided column rows)

-- the product of the weights of the columns
abbrev pub product_by : (ℕ → ℕ) → List ℕ → ℕ
product_by weight [] = 1
product_by weight (column ∷ columns) = weight column * product_by weight columns

-- the product of the columns' least weights
abbrev pub least_bound : ℕ → List ℕ → List ℕ → ℕ
least_bound past margins columns = past * product_by (least_weight margins) columns

-- the product of their greatest weights, or of all labellings where these are fewer
abbrev pub greatest_bound : ℕ → List ℕ → List ℕ → ℕ
greatest_bound past margins columns =
    let most = product_by (greatest_weight (length margins)) columns in
    past * min (number_of_labellings margins) most

-- past times the weight of a table lies between these two
abbrev pub LiesBetween : ℕ → ℕ → ℕ → List (List ℕ) → Type 0
LiesBetween past least greatest table =
    (least ≤ past * table_weight table) × (past * table_weight table ≤ greatest)

-- that of each table with these margins and columns does
abbrev pub HoldsWeights : ℕ → List ℕ → List ℕ → ℕ → ℕ → Type 0
HoldsWeights past margins columns least greatest =
    All (LiesBetween past least greatest) (tables columns margins)
