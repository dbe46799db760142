-- What each test of a linear statistic has.
use Rattle.std.proofs.Common.{◌≡◌, ℕ, ◌+◌, ◌*◌, ◌^◌, ◌<◌, ◌≤◌, List, [], ◌∷◌, length, refl, sym, ◌∙◌, ap, subst, arith}
use Rattle.std.specs.Prelude.{ℤ, ◌*ℤ◌, unsigned_abs}
use Rattle.std.specs.List.{All, AllByRecursion, Contains, sum}
use Rattle.std.proofs.Math.Nat.{mul-le-mul, mul-le-mul_left, mul-le-mul_right}
use Rattle.std.proofs.lemmas.Int.{unsigned_abs-mul}
use Rattle.std.proofs.lemmas.List.Elements.{All-from_recursion}
use Rattle.weights.specs.Labellings.{labellings}
use Rattle.weights.specs.Numbers.{absolute_sum}
use Rattle.weights.specs.Rules.{RuleFits}
use Rattle.weights.specs.declared.TheConstants.{MAX}
use Rattle.weights.specs.declared.rules.Rule.TheVariants.{Far}
use Rattle.weights.proofs.Centred.{far-fits}
use Rattle.weights.proofs.Members.{labelling_from}
use Rattle.completion_bounds.specs.Pairings.{greatest_score}
use Rattle.networks.specs.declared.verdicts.Judge.{Judge}
use Rattle.networks.specs.Judged.{judge_of}
use Rattle.later_scores.specs.LaterSums.{subjects, total_score}
use Rattle.later_scores.proofs.Absolute.{sizes-block, total-size}
use Rattle.later_scores.proofs.Later.{length-subjects}
use Rattle.label_network.specs.LabelNetwork.{label_network}
use Rattle.label_network.specs.Linear.{IsLinear, linear_statistic, row_sum}
use Rattle.label_network.proofs.LinearNarrows.{linear_measure}
use Rattle.label_network.proofs.LinearSizes.{row-size}
use Rattle.label_network.proofs.LinearValues.{statistic-size, statistic-value, subjects-total}
use Rattle.labelled.specs.LabelTests.{IsSound, IsWithin}
use Rattle.labelled.specs.LinearTests.{AreFittingLabels, linear_label_meaning, linear_label_test, linear_says}
use Rattle.labelled.specs.declared.linear.ScoredLabels.{ScoredLabels}
use Rattle.labelled.proofs.LabelLaws.{label-judge, label-sound}

-- a score of which some subjects are is no greater than all of them
greatest-within : (vs : List ℤ) (cs : List ℕ) → length vs ≡ length cs → AllByRecursion (λ c. 0 < c) cs → greatest_score vs ≤ absolute_sum (subjects vs cs)
greatest-within [] cs e all = omega arith
greatest-within (v ∷ vs) [] e all = absurd (omega (arith, e))
greatest-within (v ∷ vs) (c ∷ cs) e all =
    let some : 1 * unsigned_abs v ≤ c * unsigned_abs v = mul-le-mul_right (unsigned_abs v) (omega (arith, all.0)) in
    omega (arith, some, sizes-block c v (subjects vs cs), greatest-within vs cs (omega (arith, e)) all.1)

turned : (g n a : ℕ) → (g * n) * a ≡ n * (g * a)
turned g n a = omega arith

-- a bound that takes all of the subjects twice
module _ (n g a : ℕ) (bound : 2 * n * (g * a) ≤ MAX) where
  once-within : n * (g * a) + n * (g * a) ≤ MAX
  once-within = omega (arith, bound)

  few-within : 2 ≤ n → 4 * (g * a) ≤ MAX
  few-within two =
      let four : 4 * (g * a) ≤ 2 * n * (g * a) = mul-le-mul_right (g * a) (omega (arith, two)) in
      omega (arith, bound, four)

  sum-within : 2 ≤ n → 1 ≤ g → a ≤ MAX
  sum-within two some =
      let one : 1 * a ≤ g * a = mul-le-mul_right a some in
      omega (arith, few-within two, one)

module _ (s : ScoredLabels) (f : AreFittingLabels s) where
  abbrev most : ℕ
  most = greatest_score s.label_scores * absolute_sum s.scores

  row-within : unsigned_abs (row_sum s.label_scores s.sizes) ≤ greatest_score s.label_scores * length s.scores
  row-within = subst (λ n. unsigned_abs (row_sum s.label_scores s.sizes) ≤ greatest_score s.label_scores * n) f.are.whole (row-size s.label_scores s.sizes (greatest_score s.label_scores) (omega arith))

  centre-size : unsigned_abs (row_sum s.label_scores s.sizes) * unsigned_abs (total_score s.scores) ≤ length s.scores * most
  centre-size = omega (arith, mul-le-mul row-within (total-size s.scores), turned (greatest_score s.label_scores) (length s.scores) (absolute_sum s.scores))

  value-fits : (v : ℤ) → unsigned_abs v ≤ most → RuleFits (Far (length s.scores) (row_sum s.label_scores s.sizes *ℤ total_score s.scores) 0) v
  value-fits v h = far-fits (length s.scores) (row_sum s.label_scores s.sizes *ℤ total_score s.scores) v (omega (arith, f.are.few)) (omega (arith, mul-le-mul_left (length s.scores) h, unsigned_abs-mul (row_sum s.label_scores s.sizes) (total_score s.scores), centre-size, once-within (length s.scores) (greatest_score s.label_scores) (absolute_sum s.scores) f.bound_fits))

  pub is-within : IsWithin (linear_says s)
  is-within = record {
    few = omega (arith, f.are.few_labels);
    total_fits = f.total_fits;
    shown = refl;
    observed = f.are.observed;
    fits = λ xs a. value-fits _ (statistic-size s.label_scores s.scores xs);
  }

  most-fits : 4 * most ≤ MAX
  most-fits = few-within (length s.scores) (greatest_score s.label_scores) (absolute_sum s.scores) f.bound_fits f.are.some

  sum-fits : absolute_sum s.scores ≤ MAX
  sum-fits = sum-within (length s.scores) (greatest_score s.label_scores) (absolute_sum s.scores) f.bound_fits f.are.some f.are.label_some

  rows-fit : greatest_score s.label_scores * sum s.sizes ≤ MAX
  rows-fit =
      let one : greatest_score s.label_scores ≤ 2 ^ 64 = omega (arith, f.are.label_small) in
      let two : sum s.sizes ≤ 2 ^ 32 = omega (arith, f.are.whole, f.are.few) in
      let both : greatest_score s.label_scores * sum s.sizes ≤ 2 ^ 64 * 2 ^ 32 = mul-le-mul one two in
      omega (arith, both)

  level : sum s.columns ≡ sum s.sizes
  level = sym (length-subjects s.column_scores s.columns f.are.long) ∙ ap length f.are.subjects_are ∙ sym f.are.whole

  column-sums : absolute_sum (subjects s.column_scores s.columns) ≡ absolute_sum s.scores
  column-sums = ap absolute_sum f.are.subjects_are

  pub columns-fit : greatest_score s.column_scores * sum s.columns ≤ MAX
  columns-fit =
      let all : greatest_score s.column_scores ≤ absolute_sum s.scores = omega (arith, column-sums, greatest-within s.column_scores s.columns f.are.long f.are.each) in
      let once : 1 * absolute_sum s.scores ≤ most = mul-le-mul_right (absolute_sum s.scores) f.are.label_some in
      let wide : greatest_score s.column_scores ≤ most = omega (arith, all, once) in
      let each : greatest_score s.column_scores * sum s.columns ≤ most * length s.scores = mul-le-mul wide (omega (arith, level, f.are.whole)) in
      omega (arith, each, once-within (length s.scores) (greatest_score s.label_scores) (absolute_sum s.scores) f.bound_fits)

  pub total-is : row_sum s.column_scores s.columns ≡ total_score s.scores
  total-is = subjects-total s.column_scores s.columns ∙ ap total_score f.are.subjects_are

  pub centre-fits : unsigned_abs (row_sum s.label_scores s.sizes) * unsigned_abs (row_sum s.column_scores s.columns) ≤ MAX
  centre-fits = rw total-is (omega (arith, centre-size, once-within (length s.scores) (greatest_score s.label_scores) (absolute_sum s.scores) f.bound_fits))

  pub is-linear : (judge : Judge) → judge ≡ judge_of (linear_label_test s) → IsLinear s.label_scores s.sizes s.column_scores s.columns judge
  is-linear judge e = record {
    wide = f.are.wide;
    long = f.are.long;
    level = level;
    units = omega (arith, f.are.whole, f.are.few);
    few = f.are.few_labels;
    scores_fit = omega (arith, f.are.label_small);
    columns_fit = omega (arith, column-sums, sum-fits);
    rows_fit = rows-fit;
    sums_fit = rw column-sums (omega (arith, most-fits));
    rules_fit = λ v h. label-judge (linear_says s) is-within judge e v (value-fits v (rw column-sums at h));
  }

  pub linear-sound : IsSound (linear_says s) (label_network (linear_label_meaning s)) (label_network (linear_label_meaning s))
  linear-sound =
      let judge : Judge = judge_of (linear_label_test s) in
      label-sound (linear_says s) (linear_label_meaning s) is-within
      (linear_measure s.label_scores s.sizes s.column_scores s.columns judge (is-linear judge refl)) refl refl
      (λ xs a. ap (λ ss. linear_statistic s.label_scores ss xs) (sym f.are.subjects_are) ∙ statistic-value s.label_scores s.sizes s.column_scores s.columns judge f.are.wide f.are.long xs)

  -- each labelling has a label of a score for each subject
  module _ (xs : List ℕ) (a : Contains (labellings s.sizes) xs) where
    pub labels-below : All (λ l. l < length s.label_scores) xs
    labels-below = rw f.are.wide (All-from_recursion (λ l. l < length s.sizes) xs (labelling_from s.sizes xs a).over.below)

    pub labels-long : length xs ≡ length s.scores
    labels-long = (labelling_from s.sizes xs a).over.long ∙ f.are.whole
