-- Fisher's test of a table and of the table transposed: what is counted is in the ratio of the totals.
use Rattle.std.proofs.Common.{◌≡◌, ℕ, ◌*◌, ◌<◌, List, length, Bool, true, false, cond, ◌&&◌, refl, sym, ◌∙◌, ap, nat_eq}
use Rattle.std.specs.Prelude.{pos, nat_le, Contains}
use Rattle.std.specs.List.{filter, sum, sum_by}
use Rattle.std.specs.Ordering.{int_eq}
use Rattle.std.proofs.lemmas.Bool.Decides.{Decides-int_eq}
use Rattle.std.proofs.lemmas.List.Elements.{All-contains_itself, recursion_from_All}
use Rattle.weights.specs.declared.tails.Tail.TheVariants.{Two}
use Rattle.weights.specs.Conditional.{numerator, total, value_weight}
use Rattle.weights.specs.Grouped.{columns_of, table_weight, tables}
use Rattle.weights.specs.Labellings.{labellings, number_of_labellings}
use Rattle.weights.proofs.Chosen.{one_if}
use Rattle.weights.proofs.FirstLabel.{number_of_labellings-positive}
use Rattle.weights.proofs.GroupingLaw.{grouping}
use Rattle.weights.proofs.Sums.{sum_by-filter, sum_by-same_where}
use Rattle.table_reader.specs.TableLayout.{TableData}
use Rattle.transposed_tables.specs.Transposed.{transposed}
use Rattle.transposed_tables.proofs.Bijection.{alike}
use Rattle.transposed_tables.proofs.Weighed.{cancel, compared, weighed-transposed, weights-transposed}
use Rattle.table_sums.specs.Tables.{column_sums, columns_in, is_two_by_two, observed_labels, row_sums}
use Rattle.table_sums.proofs.MarginSums.{length-rows, level}
use Rattle.fisher_test.specs.FisherExact.{first_cell, fisher_test, rarity}
use Rattle.fisher_test.specs.Transposed.{AreTransposed}
use Rattle.fisher_test.proofs.FisherTests.{observed-rarity, observed-table, rarity-is, total-is}
use Rattle.fisher_test.proofs.TransposedData.{transposed-columns, transposed-rows, transposed-table}

-- the summed weight of the tables whose weight passes
abbrev passing : (ℕ → Bool) → List ℕ → List ℕ → ℕ
passing p columns rows = sum_by (λ w. table_weight w * one_if (p (table_weight w))) (tables columns rows)

-- how many labellings have a rarity that passes
abbrev pub rare : (ℕ → Bool) → TableData → ℕ
rare p t = sum_by (λ xs. 1) (filter (λ xs. p (rarity t xs)) (labellings (row_sums t)))

rare-is : (p : ℕ → Bool) (t : TableData) → rare p t ≡ passing p (column_sums t) (row_sums t)
rare-is p t =
    sum_by-filter (λ xs. 1) (λ xs. p (rarity t xs)) (labellings (row_sums t))
    ∙ sum_by-same_where (Contains (labellings (row_sums t))) (λ xs. cond (p (rarity t xs)) 1 0) (λ xs. one_if (p (table_weight (columns_of t.rows (column_sums t) xs)))) (λ xs m. ap (λ n. one_if (p n)) (rarity-is t xs m)) (labellings (row_sums t))
    (recursion_from_All (Contains (labellings (row_sums t))) (labellings (row_sums t)) (All-contains_itself (labellings (row_sums t))))
    ∙ ap (λ k. sum_by (λ xs. one_if (p (table_weight (columns_of k (column_sums t) xs)))) (labellings (row_sums t))) (sym (length-rows t))
    ∙ sym (grouping (column_sums t) (row_sums t) (λ w. one_if (p (table_weight w))) (sym (level t)))

-- what passes in the one and, transposed, in the other
abbrev pub PassesTransposed : List ℕ → List ℕ → (ℕ → Bool) → (ℕ → Bool) → Type 0
PassesTransposed columns rows p q = (a b : ℕ) → a * number_of_labellings columns ≡ b * number_of_labellings rows → p a ≡ q b

passing-transposed : (columns rows : List ℕ) (p q : ℕ → Bool) → sum columns ≡ sum rows → PassesTransposed columns rows p q → passing p columns rows * number_of_labellings columns ≡ passing q rows columns * number_of_labellings rows
passing-transposed columns rows p q level passes =
    weighed-transposed columns rows (λ w. one_if (p (table_weight w))) (λ w. one_if (q (table_weight w))) level (λ w i.
    ap one_if (passes (table_weight w) (table_weight (transposed (length rows) w)) (weights-transposed columns rows w level i)))

-- the weight of a value
abbrev pub weight_of : TableData → ℕ → ℕ
weight_of t v = let line = value_weight (fisher_test t) (pos v) in line.weight

-- the statistic is the weight where the table is not of 2 by 2
abbrev weight_by : Bool → TableData → ℕ → ℕ
weight_by two_by_two t v = sum_by (λ xs. 1) (filter (λ xs. int_eq (cond two_by_two (pos (first_cell (column_sums t) xs)) (pos (rarity t xs))) (pos v)) (labellings (row_sums t)))

weight-is : (t : TableData) (v : ℕ) → is_two_by_two t ≡ false → weight_of t v ≡ rare (λ n. int_eq (pos n) (pos v)) t
weight-is t v e = ap (λ b. weight_by b t v) e

-- one value is another where, in the ratio of two numbers, their partners are the same
same-line : (a v b w s r : ℕ) → 0 < s → 0 < r → a * s ≡ b * r → v * s ≡ w * r → int_eq (pos a) (pos v) ≡ int_eq (pos b) (pos w)
same-line a v b w s r some other e f =
    alike (int_eq (pos a) (pos v)) (int_eq (pos b) (pos w))
    (λ g. let same : a ≡ v = number (Decides-int_eq (pos a) (pos v)).0 g in (Decides-int_eq (pos b) (pos w)).1 (ap pos (cancel b w r other (sym e ∙ ap (λ n. n * s) same ∙ f))))
    (λ g. let same : b ≡ w = number (Decides-int_eq (pos b) (pos w)).0 g in (Decides-int_eq (pos a) (pos v)).1 (ap pos (cancel a v s some (e ∙ ap (λ n. n * r) same ∙ sym f))))
  where
    number : {x y : ℕ} → (int_eq (pos x) (pos y) ≡ true → pos x ≡ pos y) → int_eq (pos x) (pos y) ≡ true → x ≡ y
    number tells g = let same = tells g in cc

either : (a b : Bool) → (a && b) ≡ (b && a)
either true true = refl
either true false = refl
either false true = refl
either false false = refl

module _ (t u : TableData) (a : AreTransposed t u) where
  abbrev rows : List ℕ
  rows = row_sums t

  abbrev columns : List ℕ
  columns = column_sums t

  even : sum columns ≡ sum rows
  even = sym (level t)

  pub total-transposed : total (fisher_test u) ≡ number_of_labellings columns
  total-transposed = total-is u ∙ ap number_of_labellings (transposed-rows t u a)

  rare-transposed : (q : ℕ → Bool) → rare q u ≡ passing q rows columns
  rare-transposed q = rare-is q u ∙ ap (λ cs. passing q cs (row_sums u)) (transposed-columns t u a) ∙ ap (passing q rows) (transposed-rows t u a)

  pub rare-ratio : (p q : ℕ → Bool) → PassesTransposed columns rows p q → rare p t * total (fisher_test u) ≡ rare q u * total (fisher_test t)
  rare-ratio p q passes =
      ap (λ n. rare p t * n) total-transposed ∙ ap (λ n. n * number_of_labellings columns) (rare-is p t)
      ∙ passing-transposed columns rows p q even passes
      ∙ sym (ap (λ n. rare q u * n) (total-is t) ∙ ap (λ n. n * number_of_labellings rows) (rare-transposed q))

  observed-ratio : rarity t (observed_labels t) * number_of_labellings columns ≡ rarity u (observed_labels u) * number_of_labellings rows
  observed-ratio =
      ap (λ n. n * number_of_labellings columns) (observed-rarity t)
      ∙ weights-transposed columns rows (columns_in t) even (observed-table t)
      ∙ sym (ap (λ n. n * number_of_labellings rows) (observed-rarity u ∙ ap table_weight (transposed-table t u a)))

  pub numerators-transposed : numerator (fisher_test t) Two * total (fisher_test u) ≡ numerator (fisher_test u) Two * total (fisher_test t)
  numerators-transposed =
      rare-ratio (λ n. nat_le n (rarity t (observed_labels t))) (λ n. nat_le n (rarity u (observed_labels u)))
      (λ m n e. compared m (rarity t (observed_labels t)) n (rarity u (observed_labels u)) (number_of_labellings columns) (number_of_labellings rows) (number_of_labellings-positive columns) (number_of_labellings-positive rows) e observed-ratio)

  same-values : (v w : ℕ) → v * total (fisher_test u) ≡ w * total (fisher_test t) → PassesTransposed columns rows (λ n. int_eq (pos n) (pos v)) (λ n. int_eq (pos n) (pos w))
  same-values v w h m n e =
      same-line m v n w (number_of_labellings columns) (number_of_labellings rows) (number_of_labellings-positive columns) (number_of_labellings-positive rows) e
      (ap (λ k. v * k) (sym total-transposed) ∙ h ∙ ap (λ k. w * k) (total-is t))

  pub transposed-shape : is_two_by_two u ≡ is_two_by_two t
  transposed-shape = rw (a.rows, a.columns) (either (nat_eq t.columns 2) (nat_eq t.rows 2))

  pub lines-transposed : is_two_by_two t ≡ false → (v w : ℕ) → v * total (fisher_test u) ≡ w * total (fisher_test t) → weight_of t v * total (fisher_test u) ≡ weight_of u w * total (fisher_test t)
  lines-transposed shape v w h =
      ap (λ n. n * total (fisher_test u)) (weight-is t v shape)
      ∙ rare-ratio (λ n. int_eq (pos n) (pos v)) (λ n. int_eq (pos n) (pos w)) (same-values v w h)
      ∙ sym (ap (λ n. n * total (fisher_test t)) (weight-is u w (transposed-shape ∙ shape)))
