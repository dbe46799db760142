-- The sums of a table and its columns, beside those of the table transposed.
use Rattle.std.proofs.Common.{◌≡◌, ℕ, ◌+◌, ◌<◌, List, [], ◌∷◌, length, map, refl, sym, ◌∙◌, ap, arith}
use Rattle.std.specs.Prelude.{replicate}
use Rattle.std.specs.List.{range_with_len, sum_by}
use Rattle.std.proofs.lemmas.List.{length-map}
use Rattle.table_reader.specs.TableLayout.{TableData}
use Rattle.weights.proofs.Filters.{map-same_where}
use Rattle.weights.proofs.Members.{range-below}
use Rattle.weights.proofs.Sums.{sum_by-same_where}
use Rattle.transposed_tables.specs.Transposed.{fronted, transposed}
use Rattle.table_sums.specs.Tables.{cell, column_sums, columns_in, row_sums}
use Rattle.fisher_test.specs.Transposed.{AreTransposed}

-- the rows of what is told by rows and columns

abbrev no_line : List ℕ
no_line = []

none-fronted : (is : List ℕ) → replicate (length is) no_line ≡ map (λ i. no_line) is
none-fronted [] = refl
none-fronted (i ∷ is) = ap (λ w. [] ∷ w) (none-fronted is)

fronted-maps : (f : ℕ → ℕ) (g : ℕ → List ℕ) (is : List ℕ) → fronted (map f is) (map g is) ≡ map (λ i. f i ∷ g i) is
fronted-maps f g [] = refl
fronted-maps f g (i ∷ is) = ap (λ w. (f i ∷ g i) ∷ w) (fronted-maps f g is)

transposed-maps : (x : ℕ → ℕ → ℕ) (is js : List ℕ) → transposed (length is) (map (λ j. map (λ i. x i j) is) js) ≡ map (λ i. map (λ j. x i j) js) is
transposed-maps x is [] = none-fronted is
transposed-maps x is (j ∷ js) = ap (fronted (map (λ i. x i j) is)) (transposed-maps x is js) ∙ fronted-maps (λ i. x i j) (λ i. map (λ j. x i j) js) is

module _ (t u : TableData) (a : AreTransposed t u) where
  pub transposed-rows : row_sums u ≡ column_sums t
  transposed-rows =
      ap (λ n. map (λ j. sum_by (λ i. cell u j i) (range_with_len 0 n)) (range_with_len 0 u.rows)) a.columns
      ∙ ap (λ n. map (λ j. sum_by (λ i. cell u j i) (range_with_len 0 t.rows)) (range_with_len 0 n)) a.rows
      ∙ map-same_where (λ j. j < 0 + t.columns) (λ j. sum_by (λ i. cell u j i) (range_with_len 0 t.rows)) (λ j. sum_by (λ i. cell t i j) (range_with_len 0 t.rows)) (λ j h.
      sum_by-same_where (λ i. i < 0 + t.rows) (λ i. cell u j i) (λ i. cell t i j) (λ i l. a.cells i j (omega (arith, l)) (omega (arith, h))) (range_with_len 0 t.rows) (range-below 0 t.rows)) (range_with_len 0 t.columns) (range-below 0 t.columns)

  pub transposed-columns : column_sums u ≡ row_sums t
  transposed-columns =
      ap (λ n. map (λ i. sum_by (λ j. cell u j i) (range_with_len 0 n)) (range_with_len 0 u.columns)) a.rows
      ∙ ap (λ n. map (λ i. sum_by (λ j. cell u j i) (range_with_len 0 t.columns)) (range_with_len 0 n)) a.columns
      ∙ map-same_where (λ i. i < 0 + t.rows) (λ i. sum_by (λ j. cell u j i) (range_with_len 0 t.columns)) (λ i. sum_by (λ j. cell t i j) (range_with_len 0 t.columns)) (λ i l.
      sum_by-same_where (λ j. j < 0 + t.columns) (λ j. cell u j i) (λ j. cell t i j) (λ j h. a.cells i j (omega (arith, l)) (omega (arith, h))) (range_with_len 0 t.columns) (range-below 0 t.columns)) (range_with_len 0 t.rows) (range-below 0 t.rows)

  pub transposed-table : columns_in u ≡ transposed (length (row_sums t)) (columns_in t)
  transposed-table =
      ap (λ n. map (λ i. map (λ j. cell u j i) (range_with_len 0 n)) (range_with_len 0 u.columns)) a.rows
      ∙ ap (λ n. map (λ i. map (λ j. cell u j i) (range_with_len 0 t.columns)) (range_with_len 0 n)) a.columns
      ∙ map-same_where (λ i. i < 0 + t.rows) (λ i. map (λ j. cell u j i) (range_with_len 0 t.columns)) (λ i. map (λ j. cell t i j) (range_with_len 0 t.columns)) (λ i l.
      map-same_where (λ j. j < 0 + t.columns) (λ j. cell u j i) (λ j. cell t i j) (λ j h. a.cells i j (omega (arith, l)) (omega (arith, h))) (range_with_len 0 t.columns) (range-below 0 t.columns)) (range_with_len 0 t.rows) (range-below 0 t.rows)
      ∙ sym (transposed-maps (λ i j. cell t i j) (range_with_len 0 t.rows) (range_with_len 0 t.columns))
      ∙ ap (λ n. transposed n (columns_in t)) (sym (length-map (range_with_len 0 t.rows) (λ i. sum_by (λ j. cell t i j) (range_with_len 0 t.columns))))
