-- What holds of a test of Kruskal and Wallis whose total and bound pass no limit.
use Rattle.std.proofs.Common.{◌≡◌, ℕ, zero, suc, ◌+◌, ◌*◌, ◌/◌, ◌<◌, ◌≤◌, List, [], ◌∷◌, length, map, Err, refl, sym, ◌∙◌, ap, subst, arith}
use Rattle.std.specs.Prelude.{ℤ, max}
use Rattle.std.specs.List.{All, AllByRecursion}
use Rattle.std.proofs.Math.Nat.{div-le_self, mul-le-mul, mul-le-mul_left, mul-le-mul_right}
use Rattle.std.proofs.lemmas.List.{length-map}
use Rattle.std.proofs.lemmas.List.Elements.{recursion_from_All}
use Rattle.weights.specs.declared.TheConstants.{MAX}
use Rattle.weights.specs.declared.wide.WideOf.TheVariants.{Total, Statistic}
use Rattle.weights.specs.declared.wide.PrepareFault.{PrepareFault}
use Rattle.weights.specs.declared.wide.PrepareFault.TheVariants.{TooWide, NoMemory}
use Rattle.weights.specs.Labellings.{number_of_labellings}
use Rattle.weights.proofs.Centred.{no_factor-fits}
use Rattle.midranks.specs.Ties.{tie_groups}
use Rattle.midranks.specs.declared.ties.Tie.{Tie}
use Rattle.completion_bounds.specs.Boxes.{factored_squares}
use Rattle.scores.specs.PlaceScores.{common_multiple}
use Rattle.scores.specs.Scores.{AreScores, scale_of, score_of, score_sum}
use Rattle.weights.specs.Numbers.{absolute_sum}
use Rattle.scores.specs.declared.kinds.ScoreKind.{ScoreKind}
use Rattle.scores.specs.declared.kinds.Scored.{Scored}
use Rattle.scores.proofs.MultipleLemmas.{common_multiple-all}
use Rattle.scores.proofs.Positive.{scale-some}
use Rattle.sample_reader.specs.Data.{data_of}
use Rattle.sample_reader.specs.Groups.{group_sizes}
use Rattle.sample_reader.specs.declared.samples.Groups.{Groups}
use Rattle.networks.specs.declared.verdicts.Judge.{Judge}
use Rattle.networks.specs.Judged.{judge_of}
use Rattle.later_scores.specs.LaterSums.{subjects}
use Rattle.label_network.proofs.Endings.{labelling_value}
use Rattle.label_network.specs.LabelRooms.{IsLabelled}
use Rattle.label_network.specs.LabelNetwork.{IsMargin, label_network, over_rooms}
use Rattle.label_network.specs.Meanings.{IsMeasure, Meaning}
use Rattle.labelled.specs.LabelTests.{IsSound, IsWithin}
use Rattle.labelled.proofs.LabelLaws.{label-judge, label-sound}
use Rattle.pooled_columns.specs.PooledColumns.{column_scores, column_sizes, pooled_values}
use Rattle.pooled_columns.specs.ScoredGroups.{AreSubjectsOf}
use Rattle.pooled_columns.proofs.PooledValues.{pooled-rises}
use Rattle.pooled_columns.proofs.TieColumns.{columns-sum, grouped}
use Rattle.kruskal_wallis.specs.KruskalWallis.{ScoredGroups, group_sums, kruskal_wallis_says, kruskal_wallis_test, pooled_scores, size_factors, squares_statistic}
use Rattle.kruskal_wallis.specs.RankSums.{unpacked_meaning}
use Rattle.kruskal_wallis.specs.RankSumSteps.{AreFitting, IsMadeOf, IsSquaring}
use Rattle.pooled_columns.proofs.GroupFacts.{few_rows, few_subjects, none-empty, observed-labelling, sizes-whole, some_rows}
use Rattle.kruskal_wallis.proofs.GroupSums.{squares-most, sums-within}
use Rattle.kruskal_wallis.proofs.RankNarrows.{squares_measure}
use Rattle.kruskal_wallis.proofs.RankValues.{value-is}

-- ---- the bound

factors-most : (l : ℕ) (sizes : List ℕ) → AllByRecursion (λ f. f ≤ l) (map (λ n. l / n) sizes)
factors-most l [] = tt
factors-most l (n ∷ sizes) = (div-le_self l n, factors-most l sizes)

-- sums that are no greater than all scores
pub squares-bounded : (sizes : List ℕ) (scores : List ℤ) (scale : ℕ) (p : List ℤ) → absolute_sum p ≤ absolute_sum scores → factored_squares p (size_factors sizes) ≤ common_multiple sizes * (max (absolute_sum scores) scale * max (absolute_sum scores) scale)
squares-bounded sizes scores scale p h =
    let part : absolute_sum p ≤ max (absolute_sum scores) scale = omega (arith, h) in
    omega (arith, squares-most p (size_factors sizes) (common_multiple sizes) (factors-most (common_multiple sizes) sizes), mul-le-mul_left (common_multiple sizes) (mul-le-mul part part))

pub multiple-some : (sizes : List ℕ) → All (λ size. 0 < size) sizes → 1 ≤ common_multiple sizes
multiple-some sizes some = omega (arith, (common_multiple-all sizes (recursion_from_All (λ n. 0 < n) sizes some)).some)

-- of several groups
pub scores-long : (samples : ScoredGroups) → length (pooled_scores samples) ≡ length (pooled_values samples.groups)
scores-long samples = length-map (pooled_values samples.groups) (score_of samples.kind (pooled_values samples.groups))

-- no statistic of a labelling passes the bound
pub statistic-within : (samples : ScoredGroups) (xs : List ℕ) → factored_squares (group_sums (length (group_sizes samples.groups)) (pooled_scores samples) xs) (size_factors (group_sizes samples.groups)) ≤ (kruskal_wallis_test samples).bound
statistic-within samples xs = squares-bounded (group_sizes samples.groups) (pooled_scores samples) (scale_of samples.kind (pooled_values samples.groups)) (group_sums (length (group_sizes samples.groups)) (pooled_scores samples) xs) (omega (arith, sums-within (length (group_sizes samples.groups)) (pooled_scores samples) xs))

-- the sum of the scores is no more than a bound that has its square
square-most : (l s t : ℕ) → 1 ≤ l → s ≤ l * (max s t * max s t)
square-most l s t some =
    let part : s ≤ max s t = omega arith in
    let square : max s t * max s t ≤ l * (max s t * max s t) = (let one : 1 * (max s t * max s t) ≤ l * (max s t * max s t) = mul-le-mul_right (max s t * max s t) some in omega (arith, one)) in
    omega (arith, part, square, own (max s t))
  where
    own : (n : ℕ) → n ≤ n * n
    own zero = omega arith
    own (suc n) = grind arith

-- and so is the common multiple of the sizes
pub multiple-within : (samples : ScoredGroups) → common_multiple (group_sizes samples.groups) ≤ (kruskal_wallis_test samples).bound
multiple-within samples =
    let most : ℕ = max (absolute_sum (pooled_scores samples)) (scale_of samples.kind (pooled_values samples.groups)) in
    let some : 1 ≤ most = omega (arith, scale-some samples.kind (pooled_values samples.groups)) in
    let square : 1 ≤ most * most = (let one : 1 * 1 ≤ most * most = mul-le-mul some some in omega (arith, one)) in
    let whole : common_multiple (group_sizes samples.groups) * 1 ≤ common_multiple (group_sizes samples.groups) * (most * most) = mul-le-mul_left (common_multiple (group_sizes samples.groups)) square in
    omega (arith, whole)

module _ (samples : ScoredGroups) (f : AreFitting samples) where
  multiple_some : 1 ≤ common_multiple (group_sizes samples.groups)
  multiple_some = multiple-some (group_sizes samples.groups) f.none_empty

  pub within : IsWithin (kruskal_wallis_says samples)
  within = record {
    few = omega (arith, f.few_rows);
    total_fits = f.total_fits;
    shown = refl;
    observed = f.observed;
    fits = λ xs a. no_factor-fits _;
  }

  pub sum-fits : absolute_sum (pooled_scores samples) ≤ MAX
  sum-fits = omega (arith, square-most (common_multiple (group_sizes samples.groups)) (absolute_sum (pooled_scores samples)) (scale_of samples.kind (pooled_values samples.groups)) multiple_some, f.bound_fits)

  columns-level : length (column_scores samples.kind (pooled_values samples.groups)) ≡ length (column_sizes (pooled_values samples.groups))
  columns-level =
      length-map (tie_groups (pooled_values samples.groups)) (λ (t : Tie). score_of samples.kind (pooled_values samples.groups) t.value)
      ∙ sym (length-map (tie_groups (pooled_values samples.groups)) (λ (t : Tie). t.count))

  column-subjects : subjects (column_scores samples.kind (pooled_values samples.groups)) (column_sizes (pooled_values samples.groups)) ≡ pooled_scores samples
  column-subjects = grouped (score_of samples.kind (pooled_values samples.groups)) (pooled_values samples.groups) (pooled-rises samples.groups)

  pub column-total : absolute_sum (subjects (column_scores samples.kind (pooled_values samples.groups)) (column_sizes (pooled_values samples.groups))) ≡ absolute_sum (pooled_scores samples)
  column-total = ap absolute_sum column-subjects

  pub is-squaring : (judge : Judge) → judge ≡ judge_of (kruskal_wallis_test samples) → IsSquaring (size_factors (group_sizes samples.groups)) (kruskal_wallis_test samples).bound (column_scores samples.kind (pooled_values samples.groups)) (column_sizes (pooled_values samples.groups)) (group_sizes samples.groups) judge
  is-squaring judge e = record {
    long = columns-level;
    level = columns-sum (pooled_values samples.groups) ∙ sym f.whole;
    few = omega (arith, f.whole, f.few);
    few_rows = f.few_rows;
    one_each = length-map (group_sizes samples.groups) (λ n. common_multiple (group_sizes samples.groups) / n);
    sums_fit = omega (arith, column-total, sum-fits);
    bound_fits = f.bound_fits;
    bounded = λ p h. squares-bounded (group_sizes samples.groups) (pooled_scores samples) (scale_of samples.kind (pooled_values samples.groups)) p (omega (arith, h, column-total));
    rules_fit = λ v. label-judge (kruskal_wallis_says samples) within judge e v (no_factor-fits v);
  }

  unpacked-measure : IsMeasure (unpacked_meaning samples)
  unpacked-measure = squares_measure (size_factors (group_sizes samples.groups)) (kruskal_wallis_test samples).bound (column_scores samples.kind (pooled_values samples.groups)) (column_sizes (pooled_values samples.groups)) (group_sizes samples.groups) (judge_of (kruskal_wallis_test samples)) (is-squaring (judge_of (kruskal_wallis_test samples)) refl)

  pub unpacked-value : (xs : List ℕ) → squares_statistic (group_sizes samples.groups) (pooled_scores samples) xs ≡ labelling_value (unpacked_meaning samples) xs
  unpacked-value xs =
      ap (λ s. squares_statistic (group_sizes samples.groups) s xs) (sym column-subjects)
      ∙ sym (value-is (size_factors (group_sizes samples.groups)) (kruskal_wallis_test samples).bound (column_scores samples.kind (pooled_values samples.groups)) (column_sizes (pooled_values samples.groups)) (group_sizes samples.groups) (judge_of (kruskal_wallis_test samples)) columns-level xs)

  pub squares-sound : IsSound (kruskal_wallis_says samples) (label_network (unpacked_meaning samples)) (label_network (unpacked_meaning samples))
  squares-sound = label-sound (kruskal_wallis_says samples) (unpacked_meaning samples) within unpacked-measure refl refl (λ xs m. unpacked-value xs)

  -- what is measured has the groups' columns and sizes
  pub margin : (m : Meaning) (columns rows : List ℕ) → m.columns ≡ column_sizes (pooled_values samples.groups) → m.rows ≡ group_sizes samples.groups → m.slots ≤ 8 → columns ≡ column_sizes (pooled_values samples.groups) → rows ≡ group_sizes samples.groups → IsMargin (over_rooms m) columns rows
  margin m columns rows mc mr slots c r = record {
    floor_is = rw (c ∙ sym mc, r ∙ sym mr) refl;
    labelled = rw (c, r) labelled;
    some = subst (λ sizes. 2 ≤ length sizes) (sym r) f.some;
    wide = subst (λ sizes. length sizes + m.slots ≤ 16) (sym r) (omega (arith, f.few_rows, slots));
  }
    where
      labelled : IsLabelled (column_sizes (pooled_values samples.groups)) (group_sizes samples.groups)
      labelled = record { level = columns-sum (pooled_values samples.groups) ∙ sym f.whole; units = omega (arith, f.whole, f.few); few = f.few_rows; total = f.total_fits }

-- ---- of the groups of a file

pub fitting : (kind : ScoreKind) (groups : Groups) → number_of_labellings groups.sizes ≤ MAX → (kruskal_wallis_test (record { kind = kind; groups = data_of groups })).bound ≤ MAX → AreFitting (record { kind = kind; groups = data_of groups })
fitting kind groups total bound = record {
  some = some_rows groups;
  few_rows = few_rows groups;
  none_empty = none-empty groups;
  whole = sizes-whole groups;
  few = few_subjects groups;
  observed = observed-labelling groups;
  total_fits = subst (λ sizes. number_of_labellings sizes ≤ MAX) groups.counted total;
  bound_fits = bound;
}

pub scale-fits : (samples : ScoredGroups) → AreFitting samples → scale_of samples.kind (pooled_values samples.groups) * scale_of samples.kind (pooled_values samples.groups) ≤ MAX
scale-fits samples f =
    let part : scale_of samples.kind (pooled_values samples.groups) ≤ max (absolute_sum (pooled_scores samples)) (scale_of samples.kind (pooled_values samples.groups)) = omega arith in
    let whole = mul-le-mul (multiple-some (group_sizes samples.groups) f.none_empty) (mul-le-mul part part) in
    omega (arith, whole, f.bound_fits)

-- what is found of the groups of a file: their scores, the multiple and the bound
pub record AreFound (kind : ScoreKind) (groups : Groups) (scored : Scored) (multiple bound : ℕ) : Type 0 where
  pub scores : AreScores kind (pooled_values (data_of groups)) scored
  pub multiple_is : multiple ≡ common_multiple (group_sizes (data_of groups))
  pub bound_is : bound ≡ (kruskal_wallis_test (record { kind = kind; groups = data_of groups })).bound
  pub fitting : AreFitting (record { kind = kind; groups = data_of groups })

pub are-found : (kind : ScoreKind) (groups : Groups) (sizes : List ℕ) (scored : Scored) (multiple most bound : ℕ)
    → sizes ≡ group_sizes (data_of groups) → AreScores kind (pooled_values (data_of groups)) scored → multiple ≡ common_multiple sizes → most ≡ max scored.sum scored.scale
    → (multiple * (most * most) ≤ MAX) × (bound ≡ multiple * (most * most)) → number_of_labellings groups.sizes ≤ MAX → AreFound kind groups scored multiple bound
are-found kind groups sizes scored multiple most bound s scores n x b total =
    let multiple_is : multiple ≡ common_multiple (group_sizes (data_of groups)) = n ∙ ap common_multiple s in
    let most_is : most ≡ max (score_sum kind (pooled_values (data_of groups))) (scale_of kind (pooled_values (data_of groups))) = x ∙ rw (scores.sum, scores.scale) refl in
    let bound_is : bound ≡ (kruskal_wallis_test (record { kind = kind; groups = data_of groups })).bound = b.1 ∙ rw (multiple_is, most_is) refl in
    record {
      scores = scores;
      multiple_is = multiple_is;
      bound_is = bound_is;
      fitting = fitting kind groups total (subst (λ n. n ≤ MAX) (sym b.1 ∙ bound_is) b.0);
    }

-- ---- refusals

-- a sum of scores that passes the limit
pub scores-wide : (kind : ScoreKind) (groups : Groups) → MAX < score_sum kind (pooled_values (data_of groups)) → MAX < (kruskal_wallis_test (record { kind = kind; groups = data_of groups })).bound
scores-wide kind groups wide = omega (arith, wide, square-most (common_multiple (group_sizes (data_of groups))) (score_sum kind (pooled_values (data_of groups))) (scale_of kind (pooled_values (data_of groups))) (multiple-some (group_sizes (data_of groups)) (none-empty groups)))

-- or a common multiple
pub multiple-wide : (kind : ScoreKind) (groups : Groups) → MAX < common_multiple (group_sizes (data_of groups)) → MAX < (kruskal_wallis_test (record { kind = kind; groups = data_of groups })).bound
multiple-wide kind groups wide = omega (arith, wide, multiple-within (record { kind = kind; groups = data_of groups }))

pub scores-refused : (kind : ScoreKind) (groups : Groups) (e : PrepareFault) → AreSubjectsOf kind (data_of groups) (Err e) → IsMadeOf (record { kind = kind; groups = data_of groups }) (Err e)
scores-refused kind groups (TooWide Total) is = is
scores-refused kind groups (TooWide Statistic) is = scores-wide kind groups is
scores-refused kind groups NoMemory is = tt
