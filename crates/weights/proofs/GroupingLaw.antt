-- The grouping law: sums over columns, each weighed by its labellings, are sums over labellings.
use Rattle.std.proofs.Common.{◌≡◌, ℕ, ◌+◌, ◌*◌, List, [], ◌∷◌, ◌++◌, map, take, drop, length, Bool, true, false, cond, ◌&&◌, refl, sym, ◌∙◌, ap, arith, nat_eq, eq-eqb, mul_assoc}
use Rattle.std.specs.List.{sum_by, sum, filter, range_with_len}
use Rattle.std.specs.Cmp.Lexicographic.{pointwise, same_text}
use Rattle.std.proofs.lemmas.List.Sums.{sum_by-cons, length-filter}
use Rattle.std.proofs.Math.Seq.{take-append_seam, drop-append_seam}
use Rattle.weights.specs.Labellings.{lists_over, counts_of, has_counts, labellings, number_of_labellings}
use Rattle.weights.specs.Grouped.{fits, minus, choices, tables, table_weight, columns_of}
use Rattle.weights.proofs.ChoiceLists.{sum_by-lists_over, IsChoice, choices-each}
use Rattle.weights.proofs.Chosen.{one_if, chosen_once}
use Rattle.weights.proofs.Members.{IsOver, lists_over-each}
use Rattle.weights.proofs.Sized.{has_counts-append, length-counts_of, sum-counts_of, length-minus, sum-minus}
use Rattle.weights.proofs.Sums.{sum_by-same, sum_by-same_where, sum_by-scaled, sum_by-times, sum_by-cond, sum_by-filter, sum_by-swap, sum_by-fronts}

-- the sum over the labellings of sizes r, of f at the counts of the columns cs
abbrev pub by_subjects : List ℕ → List ℕ → (List (List ℕ) → ℕ) → ℕ
by_subjects cs r f = sum_by (λ xs. f (columns_of (length r) cs xs)) (labellings r)

-- the sum over the lists of counts
abbrev pub by_columns : List ℕ → List ℕ → (List (List ℕ) → ℕ) → ℕ
by_columns cs r f = sum_by (λ w. table_weight w * f w) (tables cs r)

-- one column more

pub by_columns-step : (c : ℕ) (cs r : List ℕ) (f : List (List ℕ) → ℕ) → by_columns (c ∷ cs) r f ≡ sum_by (λ x. number_of_labellings x * by_columns cs (minus r x) (λ w. f (x ∷ w))) (choices c r)
by_columns-step c cs r f =
    sum_by-fronts (λ w. table_weight w * f w) (λ x. x) (λ x. tables cs (minus r x)) (choices c r)
    ∙ sum_by-same _ _ (λ x.
    sum_by-same (λ w. (number_of_labellings x * table_weight w) * f (x ∷ w)) (λ w. number_of_labellings x * (table_weight w * f (x ∷ w))) (λ w. mul_assoc (number_of_labellings x) (table_weight w) (f (x ∷ w))) (tables cs (minus r x))
    ∙ sum_by-scaled (number_of_labellings x) (λ w. table_weight w * f (x ∷ w)) (tables cs (minus r x))) (choices c r)

-- ---- the labellings in two parts: the first c subjects, and the others

pub cond-both : (a b : Bool) (n : ℕ) → cond (a && b) n 0 ≡ cond a (cond b n 0) 0
cond-both true b n = refl
cond-both false b n = refl

-- the labellings of what remains, with its length and sum as numbers
by_remaining : (k n : ℕ) (r : List ℕ) (f : List ℕ → ℕ) → length r ≡ k → sum r ≡ n → sum_by f (filter (has_counts r) (lists_over n k)) ≡ sum_by f (labellings r)
by_remaining k n r f p q = rw (← p, ← q) refl

split : (c k : ℕ) (H : List ℕ → List ℕ → ℕ) (ys zs : List ℕ) → length ys ≡ c → H (counts_of k (take c (ys ++ zs))) (drop c (ys ++ zs)) ≡ H (counts_of k ys) zs
split c k H ys zs e = rw (← e, take-append_seam ys zs, drop-append_seam ys zs) refl

-- what follows the first part, where its counts are x
after_counts : (l : ℕ) (r x : List ℕ) (f : List ℕ → ℕ) → sum x + l ≡ sum r → sum_by (λ zs. cond (fits x r && has_counts (minus r x) zs) (f zs) 0) (lists_over l (length r)) ≡ cond (fits x r) (sum_by f (labellings (minus r x))) 0
after_counts l r x f e =
    sum_by-same _ _ (λ zs. cond-both (fits x r) (has_counts (minus r x) zs) (f zs)) (lists_over l (length r))
    ∙ sum_by-cond (fits x r) (λ zs. cond (has_counts (minus r x) zs) (f zs) 0) (lists_over l (length r))
    ∙ by (fits x r) refl
  where
    by : (b : Bool) → fits x r ≡ b → cond b (sum_by (λ zs. cond (has_counts (minus r x) zs) (f zs) 0) (lists_over l (length r))) 0 ≡ cond b (sum_by f (labellings (minus r x))) 0
    by true h = sym (sum_by-filter f (has_counts (minus r x)) (lists_over l (length r))) ∙ by_remaining (length r) l (minus r x) f (length-minus r x) (omega (arith, sum-minus r x h))
    by false h = refl

-- the lists of the first part, and what follows each
abbrev by_first : ℕ → List ℕ → (List ℕ → ℕ) → ℕ
by_first c r h = sum_by (λ ys. cond (fits (counts_of (length r) ys) r) (h (counts_of (length r) ys)) 0) (lists_over c (length r))

module _ (c l : ℕ) (r : List ℕ) (H : List ℕ → List ℕ → ℕ) where
  abbrev in_both : List ℕ → ℕ
  in_both xs = H (counts_of (length r) (take c xs)) (drop c xs)

  term_after : (ys zs : List ℕ) → length ys ≡ c → cond (has_counts r (ys ++ zs)) (in_both (ys ++ zs)) 0 ≡ cond (fits (counts_of (length r) ys) r && has_counts (minus r (counts_of (length r) ys)) zs) (H (counts_of (length r) ys) zs) 0
  term_after ys zs e = rw (has_counts-append r ys zs, split c (length r) H ys zs e) refl

  first_part : c + l ≡ sum r → sum_by in_both (labellings r) ≡ by_first c r (λ x. sum_by (H x) (labellings (minus r x)))
  first_part e =
      sum_by-filter in_both (has_counts r) (lists_over (sum r) (length r))
      ∙ ap (λ n. sum_by (λ xs. cond (has_counts r xs) (in_both xs) 0) (lists_over n (length r))) (sym e)
      ∙ sum_by-lists_over (λ xs. cond (has_counts r xs) (in_both xs) 0) c l (length r)
      ∙ sum_by-same_where (IsOver c (length r)) _ _ (λ ys o.
      sum_by-same _ _ (λ zs. term_after ys zs o.long) (lists_over l (length r))
      ∙ after_counts l r (counts_of (length r) ys) (H (counts_of (length r) ys)) (omega (arith, sum-counts_of c (length r) ys o, e))) (lists_over c (length r)) (lists_over-each c (length r))

-- the lists of the first part, taken together by their counts

number_of_labellings-count : (c : ℕ) (r x : List ℕ) → IsChoice c r x → number_of_labellings x ≡ sum_by (λ ys. one_if (pointwise nat_eq (counts_of (length r) ys) x)) (lists_over c (length r))
number_of_labellings-count c r x o =
    length-filter (has_counts x) (lists_over (sum x) (length x))
    ∙ rw (o.long, o.whole) refl

only_same : (v x : List ℕ) (h : List ℕ → ℕ) → one_if (pointwise nat_eq v x) * h x ≡ one_if (pointwise nat_eq v x) * h v
only_same v x h = by (pointwise nat_eq v x) refl
  where
    by : (b : Bool) → pointwise nat_eq v x ≡ b → one_if b * h x ≡ one_if b * h v
    by true e = ap (λ y. 1 * h y) (sym (same_text v x (sym e)))
    by false e = omega arith

choices_of : (c : ℕ) (r : List ℕ) (h : List ℕ → ℕ) (ys : List ℕ) → IsOver c (length r) ys → sum_by (λ x. one_if (pointwise nat_eq (counts_of (length r) ys) x) * h x) (choices c r) ≡ cond (fits (counts_of (length r) ys) r) (h (counts_of (length r) ys)) 0
choices_of c r h ys o =
    sum_by-same _ _ (λ x. only_same (counts_of (length r) ys) x h) (choices c r)
    ∙ sum_by-times (h (counts_of (length r) ys)) (λ x. one_if (pointwise nat_eq (counts_of (length r) ys) x)) (choices c r)
    ∙ ap (λ n. n * h (counts_of (length r) ys)) (chosen_once c r (counts_of (length r) ys) (length-counts_of (length r) ys))
    ∙ rw (sum-counts_of c (length r) ys o, eq-eqb c c refl) (by (fits (counts_of (length r) ys) r))
  where
    by : (b : Bool) → one_if b * h (counts_of (length r) ys) ≡ cond b (h (counts_of (length r) ys)) 0
    by true = omega arith
    by false = omega arith

grouped : (c : ℕ) (r : List ℕ) (h : List ℕ → ℕ) → sum_by (λ x. number_of_labellings x * h x) (choices c r) ≡ by_first c r h
grouped c r h =
    sum_by-same_where (IsChoice c r) _ _ (λ x o.
    ap (λ n. n * h x) (number_of_labellings-count c r x o)
    ∙ sym (sum_by-times (h x) (λ ys. one_if (pointwise nat_eq (counts_of (length r) ys) x)) (lists_over c (length r)))) (choices c r) (choices-each c r)
    ∙ sum_by-swap (λ x ys. one_if (pointwise nat_eq (counts_of (length r) ys) x) * h x) (choices c r) (lists_over c (length r))
    ∙ sum_by-same_where (IsOver c (length r)) _ _ (choices_of c r h) (lists_over c (length r)) (lists_over-each c (length r))

-- the column law: each choice of the first part's counts, with the labellings of what remains
pub in_parts : (c l : ℕ) (r : List ℕ) (H : List ℕ → List ℕ → ℕ) → c + l ≡ sum r → sum_by (λ xs. H (counts_of (length r) (take c xs)) (drop c xs)) (labellings r) ≡ sum_by (λ x. number_of_labellings x * sum_by (H x) (labellings (minus r x))) (choices c r)
in_parts c l r H e = first_part c l r H e ∙ sym (grouped c r (λ x. sum_by (H x) (labellings (minus r x))))

-- the law

pub no_labels : (s : ℕ) (r : List ℕ) → sum r ≡ 0 → pointwise nat_eq (map (λ i. 0) (range_with_len s (length r))) r ≡ true
no_labels s [] e = refl
no_labels s (r ∷ rs) e =
    let both : r + sum rs ≡ 0 = sym (sum_by-cons (λ v. v) r rs) ∙ e in
    rw (eq-eqb 0 r (omega arith)) (no_labels (s + 1) rs (omega arith))

pub grouping : (cs r : List ℕ) (f : List (List ℕ) → ℕ) → sum cs ≡ sum r → by_columns cs r f ≡ by_subjects cs r f
grouping [] r f e = rw (← e, no_labels 0 r (sym e)) (omega arith)
grouping (c ∷ cs) r f e =
    let whole : c + sum cs ≡ sum r = sym (sum_by-cons (λ v. v) c cs) ∙ e in
    by_columns-step c cs r f
    ∙ sum_by-same_where (IsChoice c r) _ (λ x. number_of_labellings x * sum_by (λ zs. f (x ∷ columns_of (length r) cs zs)) (labellings (minus r x))) (λ x o.
    ap (λ n. number_of_labellings x * n) (grouping cs (minus r x) (λ w. f (x ∷ w)) (omega (arith, sum-minus r x o.fitting, o.whole)))
    ∙ ap (λ k. number_of_labellings x * sum_by (λ zs. f (x ∷ columns_of k cs zs)) (labellings (minus r x))) (length-minus r x)) (choices c r) (choices-each c r)
    ∙ sym (in_parts c (sum cs) r (λ x zs. f (x ∷ columns_of (length r) cs zs)) whole)

pub one-times : (a : ℕ) (b : Bool) → a * one_if b ≡ cond b a 0
one-times a true = omega arith
one-times a false = omega arith
