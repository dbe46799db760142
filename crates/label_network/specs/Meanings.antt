-- What a measure of labels measures: a statistic of labellings, counted by columns, and an interval
-- of what it can come to.
use Rattle.std.specs.Prelude.{◌≡◌, ℕ, zero, suc, ◌+◌, ◌<◌, ℤ, pos, ◌≤ℤ◌, nat_abs, List, [], ◌∷◌, length, map, slice_index}
use Rattle.std.specs.List.{sum, Contains}
use Rattle.networks.specs.declared.verdicts.Judge.{Judge}
use Rattle.room_network.specs.Numbers.{Numbers, put, so_far, start}
use Rattle.weights.specs.Grouped.{choices, minus}

pub record Meaning : Type 0 where
  -- how many subjects each column has, and how many get each label
  pub columns : List ℕ
  pub rows : List ℕ
  -- how many numbers a partial has, a step, and an outlook
  pub slots : ℕ
  pub step_width : ℕ
  pub outlook_width : ℕ
  -- the partial before the first column
  pub first : List ℤ
  -- of a stage, the sizes that remain and a choice: their step, and where a partial is led to
  pub step : ℕ → List ℕ → List ℕ → List ℤ
  pub advance : ℕ → List ℕ → List ℕ → List ℤ → List ℤ
  -- of a stage and the sizes that remain: what their later choices can do
  pub outlook : ℕ → List ℕ → List ℤ
  -- the value of a partial after the last column
  pub value : List ℤ → ℤ
  -- of a stage, sizes and a partial: between which the values of all completions lie
  pub low : ℕ → List ℕ → List ℤ → ℤ
  pub high : ℕ → List ℕ → List ℤ → ℤ
  -- the rules that the verdicts go by
  pub judge : Judge

-- what is one number, a sum or a product over the columns
abbrev pub number_over_columns : List ℕ → List ℕ → Numbers (List ℕ) → Meaning
number_over_columns columns rows n = record {
  columns = columns;
  rows = rows;
  slots = 1;
  step_width = 1;
  outlook_width = 2;
  first = start n.operation ∷ [];
  step = λ g r c. n.step g r c ∷ [];
  advance = λ g r c p. put n.operation (so_far p) (n.step g r c) ∷ [];
  outlook = λ g r. n.least g r ∷ n.greatest g r ∷ [];
  value = so_far;
  low = λ g r p. put n.operation (so_far p) (n.least g r);
  high = λ g r p. put n.operation (so_far p) (n.greatest g r);
  judge = n.judge;
}

-- the counts that a column can be given where sizes remain
abbrev pub allowed : Meaning → ℕ → List ℕ → List (List ℕ)
allowed m g sizes = choices (slice_index m.columns g) sizes

-- these sizes and this partial are left together by choices for the columns before stage g
abbrev pub AreReached : Meaning → ℕ → List ℕ → List ℤ → Type 0
AreReached m zero r p = (r ≡ m.rows) × (p ≡ m.first)
AreReached m (suc g) r p =
    (s : List ℕ) × (q : List ℤ) × (c : List ℕ) × AreReached m g s q × (g < length m.columns)
    × Contains (allowed m g s) c × (r ≡ minus s c) × (p ≡ m.advance g s c q)

-- Intervals that narrow along every choice, to the value after the last column.
pub record IsMeasure (m : Meaning) : Type 0 where
  -- there are as many subjects as labels
  pub level : sum m.columns ≡ sum m.rows
  pub wide : (g : ℕ) (r : List ℕ) (p : List ℤ) → AreReached m g r p → length p ≡ m.slots
  pub low_rises : (g : ℕ) (r : List ℕ) (p : List ℤ) (c : List ℕ)
      → AreReached m g r p → g < length m.columns → Contains (allowed m g r) c
      → m.low g r p ≤ℤ m.low (g + 1) (minus r c) (m.advance g r c p)
  pub high_falls : (g : ℕ) (r : List ℕ) (p : List ℤ) (c : List ℕ)
      → AreReached m g r p → g < length m.columns → Contains (allowed m g r) c
      → m.high (g + 1) (minus r c) (m.advance g r c p) ≤ℤ m.high g r p
  pub low_ends : (r : List ℕ) (p : List ℤ) → AreReached m (length m.columns) r p
      → m.low (length m.columns) r p ≡ m.value p
  pub high_ends : (r : List ℕ) (p : List ℤ) → AreReached m (length m.columns) r p
      → m.high (length m.columns) r p ≡ m.value p

-- the sizes that a key's first numbers stand for
abbrev pub sizes_in : List ℤ → List ℕ
sizes_in remaining = map nat_abs remaining

-- the numbers of a key: sizes, and a partial that is reached with them
pub record IsPlace (m : Meaning) (g : ℕ) (remaining partial : List ℤ) : Type 0 where
  pub whole : remaining ≡ map pos (sizes_in remaining)
  pub reached : AreReached m g (sizes_in remaining) partial
