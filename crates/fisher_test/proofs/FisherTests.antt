-- What holds of Fisher's test of a table whose total passes no limit.
use Rattle.std.proofs.Common.{◌≡◌, ℕ, zero, suc, ◌+◌, ◌-◌, ◌*◌, ◌<◌, ◌≤◌, Bool, true, false, cond, List, [], ◌∷◌, length, map, take, drop, get_or, Some, None, refl, sym, ◌∙◌, ap, subst, arith, nat_eq, mul_assoc, mul-one, one-mul}
use Rattle.std.specs.Prelude.{ℤ, pos, ◌+ℤ◌, ◌*ℤ◌, Contains}
use Rattle.std.specs.List.{count_by, range_with_len, sum_by}
use Rattle.std.proofs.lemmas.Bool.{eqb-true, le-leb, le-ltb}
use Rattle.std.proofs.lemmas.Int.{ints}
use Rattle.std.proofs.lemmas.List.FromFn.{get_or-map-range_with_len}
use Rattle.std.proofs.lemmas.List.Sums.{get_or-le-sum_by, sum-map, sum_by-cons}
use Rattle.weights.specs.declared.tails.Tail.{Tail}
use Rattle.weights.specs.declared.tails.Tail.TheVariants.{Less, Greater, Two}
use Rattle.weights.specs.declared.rules.Rule.TheVariants.{AtMost}
use Rattle.weights.specs.declared.TheConstants.{MAX}
use Rattle.weights.specs.declared.wide.WideOf.TheVariants.{Total}
use Rattle.weights.specs.Conditional.{ConditionalTest, by_rarity, observed_statistic, total, unit_weight}
use Rattle.weights.specs.Frames.{IsFrameOf, IsShown, RulesFit}
use Rattle.weights.specs.declared.frames.Frame.{Frame}
use Rattle.weights.specs.Grouped.{columns_of, fits, labellings_giving, minus, table_weight}
use Rattle.weights.specs.Labellings.{counts_of, labellings, number_of_labellings}
use Rattle.weights.specs.Rules.{RuleFits, measured, rule_of}
use Rattle.weights.specs.Wide.{too_wide}
use Rattle.weights.proofs.Centred.{all-weigh, at_least-fits, at_most-fits, total-wide as wide-total}
use Rattle.weights.proofs.FirstLabel.{number_of_labellings-positive}
use Rattle.weights.proofs.Members.{labelling_from, same_refl}
use Rattle.weights.proofs.Sized.{first_and}
use Rattle.weights.proofs.Sums.{sum_by-one}
use Rattle.weights.proofs.Tables as tables
use Rattle.completion_bounds.proofs.TableWeights.{table-all}
use Rattle.networks.specs.declared.verdicts.Judge.{Judge}
use Rattle.networks.specs.Judged.{JudgeFits, judge_of}
use Rattle.networks.proofs.Following.{judge-fits}
use Rattle.label_network.specs.LabelNetwork.{label_network}
use Rattle.networks.specs.Follows.{Follows}
use Rattle.label_network.proofs.Endings.{labelling_value, partial_after}
use Rattle.label_network.specs.Linear.{IsLinear, linear_meaning, row_sum, table_sum}
use Rattle.room_network.specs.Numbers.{so_far}
use Rattle.label_network.proofs.LabelFollows.{label_follows}
use Rattle.label_network.proofs.LinearNarrows.{linear_measure}
use Rattle.table_reader.specs.TableLayout.{TableData}
use Rattle.table_sums.specs.Tables.{cell, column_of, column_sums, columns_in, is_two_by_two, observed_labels, row_sums}
use Rattle.table_sums.specs.TableSteps.{IsTable}
use Rattle.table_sums.proofs.ProductLimits.{is-linear}
use Rattle.table_sums.proofs.MarginSums.{are-columns, even, few-labels, length-columns, length-rows, level, some-labels, subjects-few}
use Rattle.table_sums.proofs.Observed.{observed-columns}
use Rattle.fisher_test.specs.FisherExact.{first_cell, fisher_test, has_fisher_tail, rarity}
use Rattle.fisher_test.specs.FisherNetworks.{first_cell_meaning, first_scores, fisher_network, rarity_meaning}
use Rattle.fisher_test.specs.Weighing.{weight_meaning}
use Rattle.fisher_test.specs.WeightSteps.{past_of}
use Rattle.fisher_test.specs.WeightSteps.{IsWeighing}
use Rattle.label_network.proofs.LinearValues.{statistic-table, statistic-value}
use Rattle.fisher_test.proofs.WeightNarrows.{weight_measure}

-- the test, where it is told whether the table has two rows and two columns
abbrev fisher_by : Bool → TableData → ConditionalTest
fisher_by two_by_two t = record {
  reference = labellings (row_sums t);
  statistic = λ labels. cond two_by_two (pos (first_cell (column_sums t) labels)) (pos (rarity t labels));
  observed = observed_labels t;
  weight = unit_weight;
  has_tail = has_fisher_tail two_by_two;
  two_sided = by_rarity (rarity t);
  scale = cond two_by_two 1 (number_of_labellings (row_sums t));
  bound = 1;
}

shown-by : (b : Bool) (t : TableData) → IsShown (fisher_by b t)
shown-by true t = record { has = refl; statistic_is = λ r. refl; weighty = all-weigh (labellings (row_sums t)) }
shown-by false t = record { has = refl; statistic_is = λ r. refl; weighty = all-weigh (labellings (row_sums t)) }

pub rule-fits : (t : TableData) (tail : Tail) (v : ℤ) → RuleFits (rule_of (fisher_test t) tail) v
rule-fits t Less v = at_most-fits (observed_statistic (fisher_test t)) v
rule-fits t Greater v = at_least-fits (observed_statistic (fisher_test t)) v
rule-fits t Two v = at_most-fits (pos (rarity t (observed_labels t))) v

pub rules-fit : (t : TableData) → RulesFit (fisher_test t)
rules-fit t = record { fits = λ tail r m. rule-fits t tail (measured (fisher_test t) tail r) }

pub shown : (t : TableData) → IsShown (fisher_test t)
shown t = shown-by (is_two_by_two t) t

pub total-is : (t : TableData) → total (fisher_test t) ≡ number_of_labellings (row_sums t)
total-is t = sum_by-one (labellings (row_sums t))

pub total-some : (t : TableData) → 1 ≤ total (fisher_test t)
total-some t = omega (arith, total-is t, number_of_labellings-positive (row_sums t))

pub total-wide : (t : TableData) → (number_of_labellings (row_sums t) ≤ MAX → ⊥) → too_wide (fisher_test t) ≡ Some Total
total-wide t wide = wide-total (fisher_test t) (total-is t) wide

-- the observed table is one of those with its sums

mapped-fits : (f g : ℕ → ℕ) → ((i : ℕ) → f i ≤ g i) → (is : List ℕ) → fits (map f is) (map g is) ≡ true
mapped-fits f g h [] = refl
mapped-fits f g h (i ∷ is) = rw (le-leb (f i) (g i) (h i), mapped-fits f g h is) refl

mapped-minus : (f g h : ℕ → ℕ) → ((i : ℕ) → g i ≡ f i + h i) → (is : List ℕ) → minus (map g is) (map f is) ≡ map h is
mapped-minus f g h e [] = refl
mapped-minus f g h e (i ∷ is) =
    let left : g i - f i ≡ h i = omega (arith, e i) in
    rw (left, mapped-minus f g h e is) refl

mapped-long : (f g : ℕ → ℕ) (is : List ℕ) → length (map f is) ≡ length (map g is)
mapped-long f g [] = refl
mapped-long f g (i ∷ is) = ap suc (mapped-long f g is)

is-table : (x : ℕ → ℕ → ℕ) (is js : List ℕ) → tables.IsTable (map (λ j. sum_by (λ i. x i j) is) js) (map (λ i. sum_by (λ j. x i j) js) is) (map (λ j. map (λ i. x i j) is) js)
is-table x is [] = tt
is-table x is (j ∷ js) = (
  record {
    long = mapped-long (λ i. x i j) (λ i. sum_by (λ j. x i j) (j ∷ js)) is;
    whole = sum-map (λ i. x i j) is;
    fitting = mapped-fits (λ i. x i j) (λ i. sum_by (λ j. x i j) (j ∷ js)) (λ i. omega (arith, sum_by-cons (λ j. x i j) j js)) is;
  },
  subst (λ r. tables.IsTable (map (λ j. sum_by (λ i. x i j) is) js) r (map (λ j. map (λ i. x i j) is) js)) (sym (mapped-minus (λ i. x i j) (λ i. sum_by (λ j. x i j) (j ∷ js)) (λ i. sum_by (λ j. x i j) js) (λ i. sum_by-cons (λ j. x i j) j js) is)) (is-table x is js),
)

-- the table that a labelling gives is one of those, and so as many labellings give it as it weighs

pub given-table : (t : TableData) (xs : List ℕ) → Contains (labellings (row_sums t)) xs → tables.IsTable (column_sums t) (row_sums t) (columns_of t.rows (column_sums t) xs)
given-table t xs m =
    let l = labelling_from (row_sums t) xs m in
    subst (λ k. tables.IsTable (column_sums t) (row_sums t) (columns_of k (column_sums t) xs)) (length-rows t)
    (tables.columns-table (length (row_sums t)) (column_sums t) (row_sums t) xs refl (sym (level t)) l.over (rw l.counted (same_refl (row_sums t))))

pub rarity-is : (t : TableData) (xs : List ℕ) → Contains (labellings (row_sums t)) xs → rarity t xs ≡ table_weight (columns_of t.rows (column_sums t) xs)
rarity-is t xs m = sym (tables.table_weight_is (column_sums t) (row_sums t) (columns_of t.rows (column_sums t) xs) (sym (level t)) (given-table t xs m))

pub observed-table : (t : TableData) → tables.IsTable (column_sums t) (row_sums t) (columns_in t)
observed-table t = is-table (λ i j. cell t i j) (range_with_len 0 t.rows) (range_with_len 0 t.columns)

pub observed-rarity : (t : TableData) → rarity t (observed_labels t) ≡ table_weight (columns_in t)
observed-rarity t =
    ap (λ w. labellings_giving w (column_sums t) (row_sums t)) (observed-columns t)
    ∙ sym (tables.table_weight_is (column_sums t) (row_sums t) (columns_in t) (sym (level t)) (observed-table t))

head-cell : (k : ℕ) (cs xs : List ℕ) → 1 ≤ k → 1 ≤ length cs → get_or (get_or (columns_of k cs xs) 0 []) 0 0 ≡ first_cell cs xs
head-cell zero cs xs h l = absurd (omega (arith, h))
head-cell (suc k) [] xs h l = absurd (omega (arith, l))
head-cell (suc k) (c ∷ cs) xs h l = refl

pub observed-first : (t : TableData) → 2 ≤ t.rows → 2 ≤ t.columns → first_cell (column_sums t) (observed_labels t) ≡ get_or t.cells 0 0
observed-first t rows columns =
    let column : get_or (columns_in t) 0 [] ≡ column_of t 0 = get_or-map-range_with_len (column_of t) 0 t.columns 0 0 [] (omega (arith, columns)) (omega arith) in
    let first : get_or (column_of t 0) 0 0 ≡ cell t 0 0 = get_or-map-range_with_len (λ i. cell t i 0) 0 t.rows 0 0 0 (omega (arith, rows)) (omega arith) in
    let place : 0 * t.columns + 0 ≡ 0 = omega arith in
    sym (head-cell t.rows (column_sums t) (observed_labels t) (omega (arith, rows)) (omega (arith, length-columns t, columns)))
    ∙ ap (λ table. get_or (get_or table 0 []) 0 0) (observed-columns t)
    ∙ ap (λ x. get_or x 0 0) column ∙ first ∙ ap (λ n. get_or t.cells n 0) place

-- two rows and two columns
pub square : (t : TableData) → is_two_by_two t ≡ true → (t.rows ≡ 2) × (t.columns ≡ 2)
square t e = let both = first_and (nat_eq t.rows 2) (nat_eq t.columns 2) e in (eqb-true t.rows 2 both.0, eqb-true t.columns 2 both.1)

-- what is said of the test
pub framed : (t : TableData) (b : Bool) (weight first all : ℕ) (frame : Frame) → IsTable t → b ≡ is_two_by_two t → weight ≡ table_weight (columns_in t) → first ≡ get_or t.cells 0 0 → all ≡ number_of_labellings (row_sums t)
    → frame.statistic ≡ cond b (pos first) (pos weight) → frame.scale ≡ cond b 1 all → frame.total ≡ all → frame.two ≡ AtMost (pos weight) → IsFrameOf (fisher_test t) frame
framed t b weight first all frame i two e f g statistic scale whole both =
    let statistic-is : cond b (pos first) (pos weight) ≡ cond (is_two_by_two t) (pos (first_cell (column_sums t) (observed_labels t))) (pos (rarity t (observed_labels t))) =
    ap (λ x. cond x (pos first) (pos weight)) two
    ∙ ap (λ n. cond (is_two_by_two t) (pos n) (pos weight)) (f ∙ sym (observed-first t i.two_rows i.two_columns))
    ∙ ap (λ n. cond (is_two_by_two t) (pos (first_cell (column_sums t) (observed_labels t))) (pos n)) (e ∙ sym (observed-rarity t)) in
    record {
      statistic = statistic ∙ statistic-is;
      scale = scale ∙ ap (λ x. cond x 1 all) two ∙ ap (cond (is_two_by_two t) 1) g;
      total = whole ∙ g ∙ sym (total-is t);
      two = both ∙ ap (λ n. AtMost (pos n)) (e ∙ sym (observed-rarity t));
    }

-- what a network of weights ends at
weight-from : (rows columns : List ℕ) (judge : Judge) (table : List (List ℕ)) (g : ℕ) (r : List ℕ) (p : List ℤ) → so_far p ≡ pos (past_of p)
    → so_far (partial_after (weight_meaning rows columns judge) g r p table) ≡ pos (past_of p * table_weight table)
weight-from rows columns judge [] g r p e = e ∙ ap pos (sym (mul-one (past_of p)))
weight-from rows columns judge (x ∷ table) g r p e =
    weight-from rows columns judge table (g + 1) (minus r x) (pos (past_of p * number_of_labellings x) ∷ []) refl
    ∙ ap pos (mul_assoc (past_of p) (number_of_labellings x) (table_weight table))

weight-value : (rows columns : List ℕ) (judge : Judge) (xs : List ℕ) → labelling_value (weight_meaning rows columns judge) xs ≡ pos (table_weight (columns_of (length rows) columns xs))
weight-value rows columns judge xs = weight-from rows columns judge (columns_of (length rows) columns xs) 0 rows (pos 1 ∷ []) refl ∙ ap pos (one-mul (table_weight (columns_of (length rows) columns xs)))

-- what the network of the first cell ends at
first-sum : (a b : ℕ) (z : ℤ) → (pos 1 *ℤ ((pos a *ℤ pos 1) +ℤ ((pos b *ℤ pos 0) +ℤ pos 0))) +ℤ ((pos 0 *ℤ z) +ℤ pos 0) ≡ pos a
first-sum a b z = omega (arith, ints)

first-two : (cs xs : List ℕ) → length cs ≡ 2 → table_sum first_scores first_scores (columns_of 2 cs xs) ≡ pos (first_cell cs xs)
first-two [] xs e = absurd (omega (arith, e))
first-two (c ∷ []) xs e = absurd (omega (arith, e))
first-two (c ∷ d ∷ []) xs e = first-sum (count_by (λ l. nat_eq l 0) (take c xs)) (count_by (λ l. nat_eq l 1) (take c xs)) (row_sum first_scores (counts_of 2 (take d (drop c xs))))
first-two (c ∷ d ∷ b ∷ cs) xs e = absurd (omega (arith, e))

module _ (t : TableData) (i : IsTable t) where
  pub some-columns : 0 < length (column_sums t)
  some-columns = omega (arith, length-columns t, i.two_columns)

  pub bounded : total (fisher_test t) ≤ MAX
  bounded = omega (arith, total-is t, i.total_fits)

  pub not-wide : too_wide (fisher_test t) ≡ None
  not-wide = rw (le-ltb MAX (total (fisher_test t)) bounded) refl

  pub observed-few : table_weight (columns_in t) ≤ MAX
  observed-few = omega (arith, table-all (row_sums t) (column_sums t) (columns_in t) (observed-table t), i.total_fits)

  -- of a labelling
  module _ (xs : List ℕ) (m : Contains (labellings (row_sums t)) xs) where
    pub weight-few : table_weight (columns_of t.rows (column_sums t) xs) ≤ MAX
    weight-few = omega (arith, table-all (row_sums t) (column_sums t) (columns_of t.rows (column_sums t) xs) (given-table t xs m), i.total_fits)

    -- the first column's subjects are there
    pub first-within : get_or (column_sums t) 0 0 ≤ length xs
    first-within = omega (arith, get_or-le-sum_by (λ v. v) (column_sums t) 0 0 some-columns, (are-columns t i xs m).level)

  pub weighing : IsWeighing (row_sums t) (column_sums t) (judge_of (fisher_test t))
  weighing = record {
    some = omega (arith, some-labels t i);
    few = few-labels t i;
    level = even t;
    units = omega (arith, subjects-few t i);
    total_fits = i.total_fits;
    rules_fit = λ v h. judge-fits (fisher_test t) (judge_of (fisher_test t)) refl v (λ tail. rule-fits t tail v);
  }

  pub linear-by : (judge : Judge) → is_two_by_two t ≡ true → ((v : ℤ) → JudgeFits judge v) → IsLinear first_scores (row_sums t) first_scores (column_sums t) judge
  linear-by judge two fits =
      is-linear (row_sums t) (column_sums t) first_scores first_scores (even t) (subjects-few t i) (omega arith) (omega arith)
      (omega (arith, length-rows t, (square t two).0)) (omega (arith, length-columns t, (square t two).1)) (few-labels t i) judge (λ v h. fits v)

  pub linear-of : is_two_by_two t ≡ true → IsLinear first_scores (row_sums t) first_scores (column_sums t) (judge_of (fisher_test t))
  linear-of two = linear-by (judge_of (fisher_test t)) two (λ v. judge-fits (fisher_test t) (judge_of (fisher_test t)) refl v (λ tail. rule-fits t tail v))

  follows-weight : Follows (fisher_test t) Two (fisher_network t Two)
  follows-weight =
      let judge : Judge = judge_of (fisher_test t) in
      label_follows (rarity_meaning t) (weight_measure (row_sums t) (column_sums t) judge (even t) (omega (arith, some-labels t i))) (fisher_test t) Two (record {
        judge_is = refl;
        reference = refl;
        alike = λ xs. refl;
        values = λ xs m. ap pos (rarity-is t xs m) ∙ ap (λ k. pos (table_weight (columns_of k (column_sums t) xs))) (sym (length-rows t)) ∙ sym (weight-value (row_sums t) (column_sums t) judge xs);
      })

  pub first-value : (judge : Judge) → is_two_by_two t ≡ true → (xs : List ℕ) → pos (first_cell (column_sums t) xs) ≡ labelling_value (linear_meaning first_scores (row_sums t) first_scores (column_sums t) judge) xs
  first-value judge two xs =
      sym (statistic-table first_scores first_scores (column_sums t) xs ∙ first-two (column_sums t) xs (length-columns t ∙ (square t two).1))
      ∙ statistic-value first_scores (row_sums t) first_scores (column_sums t) judge (omega (arith, length-rows t, (square t two).0)) (omega (arith, length-columns t, (square t two).1)) xs

  pub statistic-first : is_two_by_two t ≡ true → (xs : List ℕ) → (fisher_test t).statistic xs ≡ pos (first_cell (column_sums t) xs)
  statistic-first two xs = rw two refl

  follows-cell : (tail : Tail) → ((xs : List ℕ) → measured (fisher_test t) tail xs ≡ (fisher_test t).statistic xs) → is_two_by_two t ≡ true → Follows (fisher_test t) tail (label_network (first_cell_meaning t))
  follows-cell tail statistic two =
      let judge : Judge = judge_of (fisher_test t) in
      label_follows (first_cell_meaning t) (linear_measure first_scores (row_sums t) first_scores (column_sums t) judge (linear-of two)) (fisher_test t) tail (record {
        judge_is = refl;
        reference = refl;
        alike = λ xs. refl;
        values = λ xs m. statistic xs ∙ statistic-first two xs ∙ first-value judge two xs;
      })

  pub follows : (tail : Tail) → has_fisher_tail (is_two_by_two t) tail ≡ true → Follows (fisher_test t) tail (fisher_network t tail)
  follows Less two = follows-cell Less (λ xs. refl) two
  follows Greater two = follows-cell Greater (λ xs. refl) two
  follows Two two = follows-weight
