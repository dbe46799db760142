-- The observed labelling gives the table, and is one of the row sums.
use Rattle.std.proofs.Common.{◌≡◌, ℕ, ◌+◌, ◌*◌, ◌<◌, List, [], ◌∷◌, map, length, cond, inl, inr, refl, sym, ◌∙◌, ap, arith, nat_eq, eq-eqb, ne_eqb, mul-one}
use Rattle.std.specs.Prelude.{replicate}
use Rattle.std.specs.List.{AllByRecursion, count_by, flat_map, range_with_len, sum, sum_by}
use Rattle.std.proofs.Math.Seq.{take-append_seam, drop-append_seam}
use Rattle.std.proofs.lemmas.Bool.Decides.{eqb_tells}
use Rattle.std.proofs.lemmas.List.Folds.{sum_by-replicate}
use Rattle.std.proofs.lemmas.List.Sums.{sum-map}
use Rattle.table_reader.specs.TableLayout.{TableData}
use Rattle.weights.specs.Grouped.{columns_of}
use Rattle.weights.specs.Labellings.{counts_of}
use Rattle.weights.proofs.Filters.{all_append, all_replicate, map-same, map-same_where}
use Rattle.weights.proofs.Members.{IsLabelling, range-below}
use Rattle.weights.proofs.Ranges.{range-one}
use Rattle.weights.proofs.Sums.{sum_by-flat_map, sum_by-one, sum_by-same}
use Rattle.table_sums.specs.Tables.{cell, column_of, column_sums, columns_in, observed_labels, row_sums}
use Rattle.table_sums.proofs.MarginSums.{even, length-rows}

-- each label of a column as often as its count says
abbrev pub labels_by : (ℕ → ℕ) → ℕ → List ℕ
labels_by x k = flat_map (λ l. replicate (x l) l) (range_with_len 0 k)

turned : (a l i : ℕ) → a * cond (nat_eq l i) 1 0 ≡ cond (nat_eq i l) a 0
turned a l i = elim (eqb_tells l i) [
  | inl e ↦ rw (e.0, eq-eqb i l (sym e.1)) (omega arith)
  | inr e ↦ rw (e.0, ne_eqb i l (λ s. e.1 (sym s))) (omega arith)
]

occurs : (x : ℕ → ℕ) (k i : ℕ) → i < 0 + k → count_by (λ l. nat_eq l i) (labels_by x k) ≡ x i
occurs x k i h =
    sum_by-flat_map (λ l. cond (nat_eq l i) 1 0) (λ l. replicate (x l) l) (range_with_len 0 k)
    ∙ sum_by-same (λ l. sum_by (λ l. cond (nat_eq l i) 1 0) (replicate (x l) l)) (λ l. cond (nat_eq i l) (x l) 0) (λ l. sum_by-replicate (λ l. cond (nat_eq l i) 1 0) (x l) l ∙ turned (x l) l i) (range_with_len 0 k)
    ∙ range-one x i 0 k (omega arith) h

counts-by : (x : ℕ → ℕ) (k : ℕ) → counts_of k (labels_by x k) ≡ map x (range_with_len 0 k)
counts-by x k = map-same_where (λ i. i < 0 + k) (λ i. count_by (λ l. nat_eq l i) (labels_by x k)) x (occurs x k) (range_with_len 0 k) (range-below 0 k)

length-by : (x : ℕ → ℕ) (k : ℕ) → length (labels_by x k) ≡ sum_by x (range_with_len 0 k)
length-by x k =
    sym (sum_by-one (labels_by x k))
    ∙ sum_by-flat_map (λ l. 1) (λ l. replicate (x l) l) (range_with_len 0 k)
    ∙ sum_by-same (λ l. sum_by (λ l. 1) (replicate (x l) l)) x (λ l. sum_by-replicate (λ l. 1) (x l) l ∙ mul-one (x l)) (range_with_len 0 k)

blocks : (k : ℕ) (h : ℕ → List ℕ) (js : List ℕ) → columns_of k (map (λ j. length (h j)) js) (flat_map h js) ≡ map (λ j. counts_of k (h j)) js
blocks k h [] = refl
blocks k h (j ∷ js) = rw (take-append_seam (h j) (flat_map h js), drop-append_seam (h j) (flat_map h js), blocks k h js) refl

pub observed-columns : (t : TableData) → columns_of t.rows (column_sums t) (observed_labels t) ≡ columns_in t
observed-columns t =
    ap (λ cs. columns_of t.rows cs (observed_labels t)) (map-same (λ j. sum_by (λ i. cell t i j) (range_with_len 0 t.rows)) (λ j. length (labels_by (λ i. cell t i j) t.rows)) (λ j. sym (length-by (λ i. cell t i j) t.rows)) (range_with_len 0 t.columns))
    ∙ blocks t.rows (λ j. labels_by (λ i. cell t i j) t.rows) (range_with_len 0 t.columns)
    ∙ map-same (λ j. counts_of t.rows (labels_by (λ i. cell t i j) t.rows)) (column_of t) (λ j. counts-by (λ i. cell t i j) t.rows) (range_with_len 0 t.columns)

-- each label is a row, and each as often as the row has subjects
all-flat : {X : Type 0} (P : X → Type 0) (Q : ℕ → Type 0) (f : X → List ℕ) → ((x : X) → P x → AllByRecursion Q (f x)) → (xs : List X) → AllByRecursion P xs → AllByRecursion Q (flat_map f xs)
all-flat P Q f each [] a = tt
all-flat P Q f each (x ∷ xs) a = all_append Q (f x) (flat_map f xs) (each x a.0) (all-flat P Q f each xs a.1)

below-by : (x : ℕ → ℕ) (k : ℕ) → AllByRecursion (λ l. l < k) (labels_by x k)
below-by x k = all-flat (λ l. l < 0 + k) (λ l. l < k) (λ l. replicate (x l) l) (λ l h. all_replicate (λ l. l < k) (x l) l (omega (arith, h))) (range_with_len 0 k) (range-below 0 k)

module _ (t : TableData) where
  abbrev labels_in : ℕ → List ℕ
  labels_in j = labels_by (λ i. cell t i j) t.rows

  row-count : (i : ℕ) → i < 0 + t.rows → count_by (λ l. nat_eq l i) (observed_labels t) ≡ sum_by (λ j. cell t i j) (range_with_len 0 t.columns)
  row-count i h =
      sum_by-flat_map (λ l. cond (nat_eq l i) 1 0) labels_in (range_with_len 0 t.columns)
      ∙ sum_by-same (λ j. count_by (λ l. nat_eq l i) (labels_in j)) (λ j. cell t i j) (λ j. occurs (λ i. cell t i j) t.rows i h) (range_with_len 0 t.columns)

  as-many : length (observed_labels t) ≡ sum (row_sums t)
  as-many =
      sym (sum_by-one (observed_labels t))
      ∙ sum_by-flat_map (λ l. 1) labels_in (range_with_len 0 t.columns)
      ∙ sum_by-same (λ j. sum_by (λ l. 1) (labels_in j)) (λ j. sum_by (λ i. cell t i j) (range_with_len 0 t.rows)) (λ j. sum_by-one (labels_in j) ∙ length-by (λ i. cell t i j) t.rows) (range_with_len 0 t.columns)
      ∙ sym (sum-map (λ j. sum_by (λ i. cell t i j) (range_with_len 0 t.rows)) (range_with_len 0 t.columns))
      ∙ even t

  pub observed-labelling : IsLabelling (row_sums t) (observed_labels t)
  observed-labelling = record {
    over = record {
      long = as-many;
      below = rw (length-rows t) (all-flat (λ j. j < 0 + t.columns) (λ l. l < t.rows) labels_in (λ j h. below-by (λ i. cell t i j) t.rows) (range_with_len 0 t.columns) (range-below 0 t.columns));
    };
    counted = rw (length-rows t) (map-same_where (λ i. i < 0 + t.rows) (λ i. count_by (λ l. nat_eq l i) (observed_labels t)) (λ i. sum_by (λ j. cell t i j) (range_with_len 0 t.columns)) row-count (range_with_len 0 t.rows) (range-below 0 t.rows));
  }
