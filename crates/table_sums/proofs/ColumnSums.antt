-- Sums and weights of a table, one column after another, and the columns that a labelling gives.
use Rattle.std.proofs.Common.{◌≡◌, ℕ, ◌+◌, ◌*◌, ◌<◌, ◌≤◌, cond, List, [], ◌∷◌, length, take, drop, get_or, inl, inr, sym, ◌∙◌, ap, arith, add-one, mul_assoc, drop-cons, drop_of_length-le, length-drop, nat_eq}
use Rattle.std.specs.Prelude.{ℤ, pos, ◌+ℤ◌, ◌*ℤ◌, slice_index, unsigned_abs}
use Rattle.std.specs.List.{count_by, range_with_len, sum, sum_by}
use Rattle.std.proofs.Math.Nat.{mul-le-mul, mul-le-mul_left, mul-le-mul_right}
use Rattle.std.proofs.lemmas.Bool.{cases_lt}
use Rattle.std.proofs.lemmas.Int.{ints}
use Rattle.std.proofs.lemmas.List.{length-take}
use Rattle.std.proofs.lemmas.List.FromFn.{get_or-map-range_with_len, length-map-range_with_len}
use Rattle.std.proofs.lemmas.List.Sums.{sum-map, sum_by-cons, sum_by-le-sum_by}
use Rattle.table_reader.specs.Counts.{AreCounts}
use Rattle.table_reader.specs.TableLayout.{TableData}
use Rattle.weights.specs.declared.TheConstants.{MAX}
use Rattle.weights.specs.Grouped.{columns_of, table_weight}
use Rattle.weights.specs.Labellings.{counts_of, labels, number_of_labellings}
use Rattle.weights.proofs.FirstLabel.{number_of_labellings-positive}
use Rattle.weights.proofs.Ranges.{range-none, range-one}
use Rattle.weights.proofs.Sums.{sum_by-one, sum_by-swap}
use Rattle.completion_bounds.specs.Pairings.{greatest_score}
use Rattle.later_scores.proofs.Absolute.{size-plus}
use Rattle.label_network.specs.Linear.{row_sum, table_sum}
use Rattle.label_network.proofs.LinearSizes.{row-size, score-within}
use Rattle.table_sums.specs.Tables.{cell, column_of, columns_in}
use Rattle.table_sums.specs.TableSteps.{AreScores, most_added, most_subjects}
use Rattle.table_sums.proofs.MarginSums.{count-few, range-most}

-- how great a column's part is
pub term-small : (us : List ℤ) (v : ℤ) (x : List ℕ) → AreScores us → unsigned_abs v ≤ 1000000000 → sum x ≤ most_subjects → unsigned_abs v * unsigned_abs (row_sum us x) ≤ most_added
term-small us v x h l few =
    let row : unsigned_abs (row_sum us x) ≤ 1000000000 * sum x = row-size us x 1000000000 h in
    let most : unsigned_abs (row_sum us x) ≤ 1000000000 * most_subjects = omega (arith, row, few) in
    mul-le-mul l most

pub row-fits : (us : List ℤ) (x : List ℕ) → AreScores us → sum x ≤ most_subjects → greatest_score us * sum x ≤ MAX
row-fits us x h few = omega (arith, mul-le-mul h few)

pub score-small : (vs : List ℤ) (j : ℕ) → AreScores vs → unsigned_abs (get_or vs j (pos 0)) ≤ 1000000000
score-small vs j h = omega (arith, score-within vs j, h)

pub column-few : (t : TableData) → AreCounts t.cells → t.rows ≤ 8 → (j : ℕ) → sum (column_of t j) ≤ most_subjects
column-few t counts few j = omega (arith, sum-map (λ k. cell t k j) (range_with_len 0 t.rows), range-most (λ k. cell t k j) 1000000 (λ k. count-few t.cells counts (k * t.columns + j)) 0 t.rows, few)

column-at : (t : TableData) (j : ℕ) → j < t.columns → column_of t j ≡ get_or (columns_in t) j []
column-at t j h = sym (get_or-map-range_with_len (column_of t) 0 t.columns j j [] h (omega arith))

pub length-column : (t : TableData) (j : ℕ) → length (column_of t j) ≡ t.rows
length-column t j = length-map-range_with_len (λ i. cell t i j) 0 t.rows

pub length-in : (t : TableData) → length (columns_in t) ≡ t.columns
length-in t = length-map-range_with_len (column_of t) 0 t.columns

-- no more labels are counted than there are
once : (k l : ℕ) → sum_by (λ i. cond (nat_eq l i) 1 0) (range_with_len 0 k) ≤ 1
once k l = elim (cases_lt l k) [
  | inl h ↦ omega (arith, range-one (λ i. 1) l 0 k (omega arith) (omega (arith, h)))
  | inr h ↦ omega (arith, range-none (λ i. 1) l 0 k (inr (omega (arith, h))))
]

pub counts-most : (k : ℕ) (xs : List ℕ) → sum (counts_of k xs) ≤ length xs
counts-most k xs =
    omega (
      arith,
      sum-map (λ i. count_by (λ l. nat_eq l i) xs) (labels k) ∙ sum_by-swap (λ i l. cond (nat_eq l i) 1 0) (labels k) xs,
      sum_by-le-sum_by (λ l. sum_by (λ i. cond (nat_eq l i) 1 0) (labels k)) (λ l. 1) xs (once k),
      sum_by-one xs,
    )

-- one after another
pub next-of : {X : Type 0} (xs : List X) (j : ℕ) (d : X) → j < length xs → drop j xs ≡ get_or xs j d ∷ drop (j + 1) xs
next-of xs j d h = rw add-one (drop-cons xs j d h)

pub none-of : {X : Type 0} (xs : List X) (j : ℕ) → length xs ≤ j → drop j xs ≡ []
none-of xs j h = drop_of_length-le xs {i = j} h

pub columns-split : (t : TableData) (j : ℕ) → j < t.columns → drop j (columns_in t) ≡ column_of t j ∷ drop (j + 1) (columns_in t)
columns-split t j h = next-of (columns_in t) j [] (omega (arith, h, length-in t)) ∙ ap (λ x. x ∷ drop (j + 1) (columns_in t)) (sym (column-at t j h))

-- the products of the first columns are summed
pub record IsTableSum (us vs : List ℤ) (table : List (List ℕ)) (all : ℤ) (j : ℕ) (sum : ℤ) : Type 0 where
  pub summing : sum +ℤ table_sum us vs table ≡ all
  pub small : unsigned_abs sum ≤ j * most_added

pub sum-first : (us vs : List ℤ) (table : List (List ℕ)) → IsTableSum us vs table (table_sum us vs table) 0 (pos 0)
sum-first us vs table = record { summing = zero-plus (table_sum us vs table); small = omega arith }
  where
    zero-plus : (t : ℤ) → pos 0 +ℤ t ≡ t
    zero-plus t = omega (arith, ints)

pub sum-next : {us vs later : List ℤ} {table rest : List (List ℕ)} {v : ℤ} {x : List ℕ} {all : ℤ} {j : ℕ} {s : ℤ} (term : ℤ) → vs ≡ v ∷ later → table ≡ x ∷ rest → IsTableSum us vs table all j s → unsigned_abs term ≤ most_added → term ≡ v *ℤ row_sum us x → IsTableSum us later rest all (j + 1) (s +ℤ term)
sum-next {us = us} {later = later} {rest = rest} {all = all} {s = s} term scores columns f small e = record {
  summing = joined s term (table_sum us later rest) all (rw (scores, columns, ← e) at f.summing);
  small = omega (arith, f.small, small, size-plus s term);
}
  where
    joined : (s y r all : ℤ) → s +ℤ (y +ℤ r) ≡ all → (s +ℤ y) +ℤ r ≡ all
    joined s y r all a = omega (arith, ints, a)

pub sum-last : {us vs : List ℤ} {table : List (List ℕ)} {all : ℤ} {j : ℕ} {s : ℤ} → vs ≡ [] → IsTableSum us vs table all j s → s ≡ all
sum-last {all = all} {s = s} none f = ended s all (rw none at f.summing)
  where
    ended : (s all : ℤ) → s +ℤ pos 0 ≡ all → s ≡ all
    ended s all a = omega (arith, ints, a)

-- a product so far, and what is still to be multiplied
pub record IsMultiplied (rest all product : ℕ) : Type 0 where
  pub value : product * rest ≡ all
  pub some : 1 ≤ product

-- with one factor more
pub record IsMultipliedOn (factor rest all product : ℕ) : Type 0 where
  pub next : IsMultiplied rest all (product * factor)
  pub fits : product * factor ≤ all
  pub factor_fits : factor ≤ all

pub multiplied-first : (all : ℕ) → IsMultiplied all all 1
multiplied-first all = record { value = omega arith; some = omega arith }

pub multiplied-next : {factor rest all product : ℕ} → 1 ≤ factor → 1 ≤ rest → IsMultiplied (factor * rest) all product → IsMultipliedOn factor rest all product
multiplied-next {factor = factor} {rest = rest} {product = product} h i k =
    let value = mul_assoc product factor rest ∙ k.value in
    let whole : (product * factor) * 1 ≤ (product * factor) * rest = mul-le-mul_left (product * factor) i in
    let part : 1 * factor ≤ product * factor = mul-le-mul_right factor k.some in
    record {
      next = record { value = value; some = omega (arith, part, h) };
      fits = omega (arith, whole, value);
      factor_fits = omega (arith, whole, part, value);
    }

pub multiplied-last : {all product : ℕ} → IsMultiplied 1 all product → product ≡ all
multiplied-last k = omega (arith, k.value)

weight-positive : (table : List (List ℕ)) → 1 ≤ table_weight table
weight-positive [] = omega arith
weight-positive (x ∷ table) = omega (arith, mul-le-mul {n₁ = 1} {m₁ = 1} (number_of_labellings-positive x) (weight-positive table))

pub weight-next : {table rest : List (List ℕ)} {x : List ℕ} {all weight : ℕ} → table ≡ x ∷ rest → IsMultiplied (table_weight table) all weight → IsMultipliedOn (number_of_labellings x) (table_weight rest) all weight
weight-next {rest = rest} {x = x} e k = multiplied-next (number_of_labellings-positive x) (weight-positive rest) (rw e at k)

pub weight-last : {table : List (List ℕ)} {all weight : ℕ} → table ≡ [] → IsMultiplied (table_weight table) all weight → weight ≡ all
weight-last e k = multiplied-last (rw e at k)

-- the columns from place j on are still to be read of the labels
pub record IsReading (k : ℕ) (columns : List ℕ) (j : ℕ) (later : List ℕ) : Type 0 where
  pub level : sum (drop j columns) ≡ length later
  pub few : (i : ℕ) → i < length columns → slice_index columns i ≤ most_subjects

-- the next one
pub record IsRead (k : ℕ) (columns : List ℕ) (j : ℕ) (later : List ℕ) : Type 0 where
  pub within : slice_index columns j ≤ length later
  pub next : IsReading k columns (j + 1) (drop (slice_index columns j) later)
  pub few : sum (counts_of k (take (slice_index columns j) later)) ≤ most_subjects
  pub split : columns_of k (drop j columns) later ≡ counts_of k (take (slice_index columns j) later) ∷ columns_of k (drop (j + 1) columns) (drop (slice_index columns j) later)

pub read : {k : ℕ} {columns : List ℕ} {j : ℕ} {later : List ℕ} → IsReading k columns j later → j < length columns → IsRead k columns j later
read {k = k} {columns = columns} {j = j} {later = later} f h =
    let column : ℕ = slice_index columns j in
    let here : drop j columns ≡ column ∷ drop (j + 1) columns = next-of columns j 0 h in
    let parted : column + sum (drop (j + 1) columns) ≡ length later = sym (ap sum here ∙ sum_by-cons (λ v. v) column (drop (j + 1) columns)) ∙ f.level in
    record {
      within = omega (arith, parted);
      next = record { level = omega (arith, parted, length-drop {A = ℕ}); few = f.few };
      few = omega (arith, counts-most k (take column later), length-take column later, f.few j h);
      split = ap (λ cs. columns_of k cs later) here;
    }
