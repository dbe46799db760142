-- The sums of a table's rows and columns: how many they are, and how great.
use Rattle.std.proofs.Common.{◌≡◌, ℕ, zero, suc, ◌+◌, ◌*◌, ◌<◌, ◌≤◌, List, [], ◌∷◌, length, map, get_or, inl, inr, refl, sym, ◌∙◌, ap, arith}
use Rattle.std.specs.Prelude.{Contains, slice_index}
use Rattle.std.specs.List.{range_with_len, sum, sum_by}
use Rattle.std.proofs.Math.Nat.{mul-le-mul}
use Rattle.std.proofs.lemmas.Bool.{cases_lt}
use Rattle.std.proofs.lemmas.List.FromFn.{get_or-map-range_with_len, length-map-range_with_len, map-range_with_len_more}
use Rattle.std.proofs.lemmas.List.Sums.{sum-map, sum_by-append, sum_by-cons}
use Rattle.table_reader.specs.Counts.{AreCounts}
use Rattle.table_reader.specs.Data.{table_data_of}
use Rattle.table_reader.specs.TableLayout.{TableData}
use Rattle.table_reader.specs.declared.tables.Table.{Table}
use Rattle.weights.specs.declared.TheConstants.{MAX}
use Rattle.weights.specs.Labellings.{labellings, number_of_labellings}
use Rattle.weights.proofs.Members.{labelling_from}
use Rattle.weights.proofs.Sums.{sum_by-same, sum_by-swap}
use Rattle.table_sums.specs.Tables.{cell, column_sums, row_sums}
use Rattle.table_sums.specs.TableSteps.{AreColumns, IsTable, most_subjects}

past : (xs : List ℕ) (n : ℕ) → length xs ≤ n → get_or xs n 0 ≡ 0
past [] zero h = refl
past [] (suc n) h = refl
past (x ∷ xs) zero h = absurd (omega (arith, h))
past (x ∷ xs) (suc n) h = past xs n (omega (arith, h))

pub count-few : (cells : List ℕ) → AreCounts cells → (n : ℕ) → get_or cells n 0 ≤ 1000000
count-few cells all n = elim (cases_lt n (length cells)) [
  | inl l ↦ all n 0 l
  | inr l ↦ omega (arith, past cells n l)
]

pub range-most : (f : ℕ → ℕ) (m : ℕ) → ((i : ℕ) → f i ≤ m) → (s n : ℕ) → sum_by f (range_with_len s n) ≤ n * m
range-most f m each s zero = omega arith
range-most f m each s (suc n) = omega (arith, sum_by-cons f s (range_with_len (s + 1) n), each s, range-most f m each (s + 1) n)

pub range-more : (f : ℕ → ℕ) (n : ℕ) → sum_by f (range_with_len 0 n) + f n ≡ sum_by f (range_with_len 0 (n + 1))
range-more f n =
    sym (
    sym (sum-map f (range_with_len 0 (n + 1)))
    ∙ ap sum (map-range_with_len_more f 0 n n (omega arith))
    ∙ sum_by-append (λ v. v) (map f (range_with_len 0 n)) (f n ∷ [])
    ∙ last (sum (map f (range_with_len 0 n))) (sum_by f (range_with_len 0 n)) (f n) (sum (f n ∷ [])) (sum-map f (range_with_len 0 n)) (sum_by-cons (λ v. v) (f n) []))
  where
    last : (a b x y : ℕ) → a ≡ b → y ≡ x + 0 → a + y ≡ b + x
    last a b x y e f = omega (arith, e, f)

-- a row, and a column, read with a step
pub row-read : (t : TableData) (i : ℕ) → sum_by (λ (k : ℕ). get_or t.cells (i * t.columns + k * 1) 0) (range_with_len 0 t.columns) ≡ sum_by (λ j. cell t i j) (range_with_len 0 t.columns)
row-read t i = sum_by-same (λ (k : ℕ). get_or t.cells (i * t.columns + k * 1) 0) (λ j. cell t i j) (λ k. ap (λ n. get_or t.cells n 0) (at (i * t.columns) k)) (range_with_len 0 t.columns)
  where
    at : (a k : ℕ) → a + k * 1 ≡ a + k
    at a k = omega arith

pub column-read : (t : TableData) (j : ℕ) → sum_by (λ (k : ℕ). get_or t.cells (j + k * t.columns) 0) (range_with_len 0 t.rows) ≡ sum_by (λ i. cell t i j) (range_with_len 0 t.rows)
column-read t j = sum_by-same (λ (k : ℕ). get_or t.cells (j + k * t.columns) 0) (λ i. cell t i j) (λ k. ap (λ n. get_or t.cells n 0) (at j (k * t.columns))) (range_with_len 0 t.rows)
  where
    at : (a k : ℕ) → a + k ≡ k + a
    at a k = omega arith

-- each cell of a row, and of a column, is there
pub within : (i j rows columns : ℕ) → i < rows → j < columns → i * columns + j < rows * columns
within i j zero columns h l = absurd (omega (arith, h))
within zero j (suc rows) columns h l = omega (arith, l)
within (suc i) j (suc rows) columns h l = omega (arith, within i j rows columns (omega (arith, h)) l)

module _ (t : TableData) where
  pub level : sum (row_sums t) ≡ sum (column_sums t)
  level =
      sum-map (λ i. sum_by (λ j. cell t i j) (range_with_len 0 t.columns)) (range_with_len 0 t.rows)
      ∙ sum_by-swap (λ i j. cell t i j) (range_with_len 0 t.rows) (range_with_len 0 t.columns)
      ∙ sym (sum-map (λ j. sum_by (λ i. cell t i j) (range_with_len 0 t.rows)) (range_with_len 0 t.columns))

  pub length-rows : length (row_sums t) ≡ t.rows
  length-rows = length-map-range_with_len (λ i. sum_by (λ j. cell t i j) (range_with_len 0 t.columns)) 0 t.rows

  pub length-columns : length (column_sums t) ≡ t.columns
  length-columns = length-map-range_with_len (λ j. sum_by (λ i. cell t i j) (range_with_len 0 t.rows)) 0 t.columns

  module _ (counts : AreCounts t.cells) (rows : t.rows ≤ 8) (columns : t.columns ≤ 64) where
    pub subjects-most : sum (row_sums t) ≤ 512000000
    subjects-most =
        let row : (i : ℕ) → sum_by (λ j. cell t i j) (range_with_len 0 t.columns) ≤ t.columns * 1000000 = λ k. range-most (λ j. cell t k j) 1000000 (λ j. count-few t.cells counts (k * t.columns + j)) 0 t.columns in
        let all : sum_by (λ i. sum_by (λ j. cell t i j) (range_with_len 0 t.columns)) (range_with_len 0 t.rows) ≤ t.rows * (t.columns * 1000000) = range-most (λ i. sum_by (λ j. cell t i j) (range_with_len 0 t.columns)) (t.columns * 1000000) row 0 t.rows in
        let wide : t.columns * 1000000 ≤ 64000000 = omega (arith, columns) in
        let most : t.rows * (t.columns * 1000000) ≤ 8 * 64000000 = mul-le-mul rows wide in
        omega (arith, sum-map (λ i. sum_by (λ j. cell t i j) (range_with_len 0 t.columns)) (range_with_len 0 t.rows), all, most)

  pub even : sum (column_sums t) ≡ sum (row_sums t)
  even = sym level

  module _ (i : IsTable t) where
    pub few-labels : length (row_sums t) ≤ 8
    few-labels = omega (arith, length-rows, i.few_rows)

    pub some-labels : 2 ≤ length (row_sums t)
    some-labels = omega (arith, length-rows, i.two_rows)

    pub subjects-few : sum (row_sums t) ≤ 512000000
    subjects-few = subjects-most i.counts i.few_rows i.few_columns

    pub column-few : (j : ℕ) → j < length (column_sums t) → slice_index (column_sums t) j ≤ most_subjects
    column-few j h =
        let at : get_or (column_sums t) j 0 ≡ sum_by (λ i. cell t i j) (range_with_len 0 t.rows) = get_or-map-range_with_len (λ j. sum_by (λ i. cell t i j) (range_with_len 0 t.rows)) 0 t.columns j j 0 (omega (arith, h, length-columns)) (omega arith) in
        omega (arith, at, range-most (λ i. cell t i j) 1000000 (λ k. count-few t.cells i.counts (k * t.columns + j)) 0 t.rows, i.few_rows)

    -- of a labelling
    pub are-columns : (xs : List ℕ) → Contains (labellings (row_sums t)) xs → AreColumns (column_sums t) xs
    are-columns xs m = record {
      level = even ∙ sym (labelling_from (row_sums t) xs m).over.long;
      few_columns = omega (arith, length-columns, i.few_columns);
      few = column-few;
    }

-- a table that was read
pub table-few : (t : Table) → sum (row_sums (table_data_of t)) ≤ 512000000
table-few t = subjects-most (table_data_of t) t.in_range t.few_rows t.few_columns

pub table-of : (t : Table) → number_of_labellings (row_sums (table_data_of t)) ≤ MAX → IsTable (table_data_of t)
table-of t total = record {
  two_rows = t.two_rows;
  few_rows = t.few_rows;
  two_columns = t.two_columns;
  few_columns = t.few_columns;
  one_each = t.one_each;
  total_fits = total;
  counts = t.in_range;
}
