-- The cells of the table transposed, which are the columns one after another.
use Rattle.std.proofs.Common.{◌≡◌, ℕ, zero, suc, ◌+◌, ◌*◌, ◌<◌, ◌≤◌, List, [], ◌∷◌, ◌++◌, length, map, get_or, sym, ◌∙◌, ap, refl, arith, append-nil, append_assoc, add-one}
use Rattle.std.specs.List.{AllByRecursion, flat_map, range_with_len}
use Rattle.std.proofs.lemmas.List.{get_or-append-add, get_or_append_left, length-append}
use Rattle.std.proofs.lemmas.List.Elements.{All-from_recursion}
use Rattle.std.proofs.lemmas.List.FromFn.{get_or-map-range_with_len, length-map-range_with_len}
use Rattle.weights.proofs.Filters.{all_append}
use Rattle.table_reader.specs.Counts.{AreCounts}
use Rattle.table_reader.specs.TableLayout.{TableData}
use Rattle.table_sums.specs.Tables.{cell, column_of}
use Rattle.table_sums.proofs.MarginSums.{count-few}
use Rattle.fisher_test.specs.Transposed.{AreTransposed, transposed_data}

-- one line more
pub flat_map-more : (h : ℕ → List ℕ) (s n j : ℕ) → s + n ≡ j → flat_map h (range_with_len s (n + 1)) ≡ flat_map h (range_with_len s n) ++ h j
flat_map-more h s n j e = rw add-one (by s n j e)
  where
    by : (s n j : ℕ) → s + n ≡ j → flat_map h (range_with_len s (suc n)) ≡ flat_map h (range_with_len s n) ++ h j
    by s zero j e = append-nil (h s) ∙ ap h (omega (arith, e))
    by s (suc n) j e = ap (λ ys. h s ++ ys) (by (s + 1) n j (omega (arith, e))) ∙ sym (append_assoc (h s) (flat_map h (range_with_len (s + 1) n)) (h j))

module _ (h : ℕ → List ℕ) (wide : ℕ) (long : (j : ℕ) → length (h j) ≡ wide) where
  at-line : (s n j i : ℕ) → j < n → i < wide → get_or (flat_map h (range_with_len s n)) (j * wide + i) 0 ≡ get_or (h (s + j)) i 0
  at-line s zero j i l k = absurd (omega (arith, l))
  at-line s (suc n) zero i l k =
      let here : 0 * wide + i ≡ i = omega arith in
      let same : s + 0 ≡ s = omega arith in
      rw (here, same) (get_or_append_left (h s) (flat_map h (range_with_len (s + 1) n)) 0 i (omega (arith, k, long s)))
  at-line s (suc n) (suc j) i l k =
      let place : suc j * wide + i ≡ length (h s) + (j * wide + i) = placed j wide i (length (h s)) (long s) in
      let line : (s + 1) + j ≡ s + suc j = omega arith in
      ap (λ m. get_or (h s ++ flat_map h (range_with_len (s + 1) n)) m 0) place
      ∙ get_or-append-add (h s) (flat_map h (range_with_len (s + 1) n)) (j * wide + i) 0
      ∙ at-line (s + 1) n j i (omega (arith, l)) k
      ∙ ap (λ m. get_or (h m) i 0) line
    where
      placed : (j w i l : ℕ) → l ≡ w → suc j * w + i ≡ l + (j * w + i)
      placed j w i l e = omega (arith, e)

  length-lines : (s n : ℕ) → length (flat_map h (range_with_len s n)) ≡ n * wide
  length-lines s zero = omega arith
  length-lines s (suc n) = length-append (h s) (flat_map h (range_with_len (s + 1) n)) ∙ omega (arith, long s, length-lines (s + 1) n)

all-lines : (P : ℕ → Type 0) (h : ℕ → List ℕ) → ((j : ℕ) → AllByRecursion P (h j)) → (js : List ℕ) → AllByRecursion P (flat_map h js)
all-lines P h each [] = tt
all-lines P h each (j ∷ js) = all_append P (h j) (flat_map h js) (each j) (all-lines P h each js)

all-mapped : (P : ℕ → Type 0) (f : ℕ → ℕ) → ((i : ℕ) → P (f i)) → (is : List ℕ) → AllByRecursion P (map f is)
all-mapped P f each [] = tt
all-mapped P f each (i ∷ is) = (each i, all-mapped P f each is)

module _ (t : TableData) where
  length-column : (j : ℕ) → length (column_of t j) ≡ t.rows
  length-column j = length-map-range_with_len (λ i. cell t i j) 0 t.rows

  pub are-transposed : AreTransposed t (transposed_data t)
  are-transposed = record {
    rows = refl;
    columns = refl;
    cells = λ i j h l.
        at-line (column_of t) t.rows length-column 0 t.columns j i l h
        ∙ get_or-map-range_with_len (λ i. cell t i (0 + j)) 0 t.rows i i 0 h (omega arith)
        ∙ ap (λ k. cell t i k) (omega arith);
  }

  pub one-each : length (transposed_data t).cells ≡ t.columns * t.rows
  one-each = length-lines (column_of t) t.rows length-column 0 t.columns

  pub transposed-counts : AreCounts t.cells → AreCounts (transposed_data t).cells
  transposed-counts all =
      All-from_recursion (λ n. n ≤ 1000000) (transposed_data t).cells
      (all-lines (λ n. n ≤ 1000000) (column_of t) (λ j. all-mapped (λ n. n ≤ 1000000) (λ i. cell t i j) (λ i. count-few t.cells all (i * t.columns + j)) (range_with_len 0 t.rows)) (range_with_len 0 t.columns))
