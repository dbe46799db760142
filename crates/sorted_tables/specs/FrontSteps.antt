-- The front of a choice, which is given up to a row: what is known of it, and words for the choices
-- that begin with it.
use Rattle.std.specs.Prelude.{◌≡◌, ℕ, ◌+◌, ◌-◌, ◌*◌, ◌/◌, ◌^◌, ◌<◌, ◌≤◌, ◌&&◌, pos, List, [], ◌∷◌, length, map, nat_eq, true, if◌then◌else◌}
use Rattle.std.specs.List.{sum, Contains}
use Rattle.weights.specs.declared.lines.Line.{Line}
use Rattle.weights.specs.declared.TheConstants.{MAX}
use Rattle.weights.specs.Grouped.{choices, minus}
use Rattle.weights.specs.Labellings.{number_of_labellings}
use Rattle.weights.specs.Numbers.{binomial}
use Rattle.label_network.specs.LabelSteps.{IsHeld}
use Rattle.sorted_tables.specs.SortedSteps.{fits_behind, kept, run}
use Rattle.sorted_tables.specs.declared.fronts.Front.{Front}

-- both numbers of labellings of a choice: its own, and that of what it leaves
abbrev pub split_ways : List ℕ → List ℕ → ℕ
split_ways rows x = number_of_labellings x * number_of_labellings (minus rows x)

-- how many rows are alike up to a row that gets so many
abbrev pub alike_with : ℕ → ℕ → ℕ → ℕ → ℕ → ℕ
alike_with before last alike size count =
    if nat_eq size before && nat_eq count last then alike + 1 else 1

-- in how many orders rows may stand that are alike, where some are alike before them
abbrev pub alike_orders : ℕ → ℕ → ℕ → List ℕ → List ℕ → ℕ
alike_orders before last alike [] x = 1
alike_orders before last alike (size ∷ rows) [] = 1
alike_orders before last alike (size ∷ rows) (count ∷ x) =
    let here = alike_with before last alike size count in
    here * alike_orders size count here rows x

-- how many rows are alike up to the last one, which gets all that is left
abbrev pub last_alike : Front → List ℕ → ℕ
last_alike front [] = 1
last_alike front (size ∷ rows) = alike_with front.size front.count front.alike size front.column

-- a front with one more row
abbrev pub with_row : Front → ℕ → ℕ → Front
with_row front size count =
    let alike = alike_with front.size front.count front.alike size count in
    let rest = size - count in
    record {
      size = size;
      count = count;
      alike = alike;
      orders = front.orders * alike;
      column = front.column - count;
      others = front.others - rest;
      ways = front.ways * (binomial front.column count * binomial front.others rest);
    }

-- the line of a front with a choice for the rows behind it, where rows of equal size may stand
-- in so many orders
abbrev pub front_line : ℕ → Front → List ℕ → List ℕ → Line
front_line orders front rows x =
    let ways = front.ways * split_ways rows x in
    let alike = front.orders * alike_orders front.size front.count front.alike rows x in
    record { value = pos ways; weight = ways * (orders / alike) }

-- those of all choices that fit behind it
abbrev pub front_lines : ℕ → Front → List ℕ → List Line
front_lines orders front rows =
    map (front_line orders front rows) (kept front.size front.count front.column rows)

-- a front that a choice fits behind, and lines that are few enough
pub record IsFront (width orders : ℕ) (rows : List ℕ) (front : Front) : Type 0 where
  pub few : front.alike + length rows ≤ 8
  pub few_orders : front.orders * 8 ^ length rows ≤ 8 ^ 8
  pub some_orders : 1 ≤ front.orders
  pub some : 1 ≤ front.ways
  pub level : front.column + front.others ≡ sum rows
  pub small : sum rows < 2 ^ 64
  pub held : IsHeld width rows
  pub least : front.count ≤ front.size
  pub enough : front.count * run front.size rows ≤ front.column
  pub fits : (x : List ℕ) → Contains (choices front.column rows) x
      → front.ways * split_ways rows x ≤ MAX
  pub line_fits : (x : List ℕ) → Contains (choices front.column rows) x
      → fits_behind front.size front.count rows x ≡ true
      → (front_line orders front rows x).weight ≤ MAX

-- a count that a front's next row may have
pub record IsNext (width : ℕ) (front : Front) (size count : ℕ) : Type 0 where
  pub few : count ≤ size
  pub within : count ≤ front.column
  pub left : size - count ≤ front.others
  pub held : width ≤ count → front.column - count < width
  pub held_left : width ≤ size - count → front.others - (size - count) < width
  pub some : 1 ≤ front.ways
  pub fits : (with_row front size count).ways ≤ MAX
  pub alike : front.alike < 8
  pub orders : front.orders ≤ 8 ^ 8
