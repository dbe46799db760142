-- What holds of a test of ordered groups whose total passes no limit.
use Rattle.std.proofs.Common.{◌≡◌, ℕ, suc, ◌+◌, ◌*◌, ◌<◌, ◌≤◌, Bool, true, false, cond, List, [], ◌∷◌, length, refl, sym, ◌∙◌, ap, subst, arith, nat_eq, lit≤, length-append}
use Rattle.std.specs.Prelude.{ℤ, pos, ◌-◌, slice_index, int_lt, nat_lt, nat_le, Contains}
use Rattle.std.specs.List.{AllByRecursion, flat_map, sum, sum_by}
use Rattle.std.specs.Ordering.{int_eq}
use Rattle.std.proofs.Math.Nat.{mul-le-mul, mul-le-mul_left}
use Rattle.std.proofs.lemmas.List.{map-id}
use Rattle.std.proofs.lemmas.List.Elements.{All-from_recursion}
use Rattle.std.proofs.lemmas.List.FromFn.{length-range_with_len}
use Rattle.weights.specs.declared.rules.Rule.TheVariants.{Far}
use Rattle.weights.specs.declared.TheConstants.{MAX}
use Rattle.weights.specs.Labellings.{counts_of, labellings, labels}
use Rattle.weights.specs.Rules.{RuleFits}
use Rattle.weights.proofs.Centred.{far_natural-fits}
use Rattle.weights.proofs.Filters.{all_append}
use Rattle.weights.proofs.Members.{labelling_from, range-below}
use Rattle.weights.proofs.Sums.{sum_by-same}
use Rattle.midranks.specs.Ties.{tie_groups}
use Rattle.midranks.proofs.TieLemmas.{groups-ascend}
use Rattle.sample_reader.specs.Groups.{group_sizes}
use Rattle.sample_reader.specs.PooledSample.{paired_subjects}
use Rattle.sample_reader.specs.declared.subjects.Subject.{Subject}
use Rattle.sample_reader.proofs.PooledLemmas.{paired-few}
use Rattle.networks.specs.declared.verdicts.Judge.{Judge}
use Rattle.networks.specs.Judged.{judge_of}
use Rattle.label_network.specs.LabelNetwork.{label_network}
use Rattle.label_network.proofs.Narrowing.{fits-self}
use Rattle.labelled.specs.LabelTests.{IsSound, IsWithin}
use Rattle.labelled.proofs.LabelLaws.{label-judge, label-sound}
use Rattle.pooled_columns.specs.PooledColumns.{column_sizes, pooled_values}
use Rattle.pooled_columns.proofs.PooledValues.{pooled-rises}
use Rattle.pooled_columns.proofs.TieColumns.{columns-sum, grouped}
use Rattle.ordered_samples.specs.declared.counted_samples.CountedSamples.{CountedSamples}
use Rattle.ordered_samples.specs.declared.used_pairs.UsedPair.{UsedPair}
use Rattle.ordered_samples.specs.PairCounts.{umbrella_meaning}
use Rattle.ordered_samples.specs.Umbrella.{PeakedGroups, group_of, pair_of, pair_points, points, subject_pairs, umbrella_says, umbrella_test, used_pairs}
use Rattle.ordered_samples.specs.UmbrellaSteps.{AreCounted, ArePairs, IsCounting, IsPair, points_from}
use Rattle.ordered_samples.proofs.PairFits.{pairs-most, sum-within}
use Rattle.ordered_samples.proofs.PairPoints.{pairs_measure}
use Rattle.ordered_samples.proofs.PairValues.{points-are, value-is}

-- ---- the used pairs

all-flat : {X Y : Type 0} (P : X → Type 0) (Q : Y → Type 0) (f : X → List Y) → ((x : X) → P x → AllByRecursion Q (f x)) → (xs : List X) → AllByRecursion P xs → AllByRecursion Q (flat_map f xs)
all-flat P Q f each [] a = tt
all-flat P Q f each (x ∷ xs) a = all_append Q (f x) (flat_map f xs) (each x a.0) (all-flat P Q f each xs a.1)

length-flat : {X Y : Type 0} (P : X → Type 0) (n : ℕ) (f : X → List Y) → ((x : X) → P x → length (f x) ≤ n) → (xs : List X) → AllByRecursion P xs → length (flat_map f xs) ≤ n * length xs
length-flat P n f each [] a = omega arith
length-flat P n f each (x ∷ xs) a = omega (arith, length-append (f x) (flat_map f xs), each x a.0, length-flat P n f each xs a.1, more n (length xs))
  where
    more : (n m : ℕ) → n * suc m ≡ n + n * m
    more n m = omega arith

below : (n : ℕ) → AllByRecursion (λ l. l < n) (labels n)
below n = let none : 0 + n ≡ n = omega arith in subst (λ m. AllByRecursion (λ l. l < m) (labels n)) none (range-below 0 n)

one-pair : (peak k u v : ℕ) → u < v → v < k → AllByRecursion (IsPair k) (pair_of peak u v)
one-pair peak k u v h l = by (nat_lt v peak) (nat_le peak (u + 1))
  where
    by : (b c : Bool) → AllByRecursion (IsPair k) (cond b (record { lesser = u; greater = v } ∷ []) (cond c (record { lesser = v; greater = u } ∷ []) []))
    by true c = ((omega (arith, h, l), l), tt)
    by false true = ((l, omega (arith, h, l)), tt)
    by false false = tt

one-at-most : (peak u v : ℕ) → length (pair_of peak u v) ≤ 1
one-at-most peak u v = by (nat_lt v peak) (nat_le peak (u + 1))
  where
    by : (b c : Bool) → length (cond {A = List UsedPair} b (record { lesser = u; greater = v } ∷ []) (cond c (record { lesser = v; greater = u } ∷ []) [])) ≤ 1
    by true c = omega arith
    by false true = omega arith
    by false false = omega arith

pub pairs-are : (peak k : ℕ) → k ≤ 8 → ArePairs k (used_pairs peak k)
pairs-are peak k h = record {
  each = All-from_recursion (IsPair k) (used_pairs peak k) (all-flat (λ v. v < k) (IsPair k) _ (λ v l. all-flat (λ u. u < v) (IsPair k) _ (λ u i. one-pair peak k u v i l) (labels v) (below v)) (labels k) (below k));
  few = omega (arith, whole, mul-le-mul h h);
}
  where
    column : (v : ℕ) → v < k → length (flat_map (λ u. pair_of peak u v) (labels v)) ≤ k
    column v l = omega (arith, length-flat (λ u. u < v) 1 (λ u. pair_of peak u v) (λ u i. one-at-most peak u v) (labels v) (below v), length-range_with_len 0 v, l)

    whole : length (used_pairs peak k) ≤ k * k
    whole = subst (λ n. length (used_pairs peak k) ≤ k * n) (length-range_with_len 0 k) (length-flat (λ v. v < k) k _ column (labels k) (below k))

-- ---- how great the points are

points-few : (v w : ℤ) → points v w ≤ 2
points-few v w = by (int_lt v w) (int_eq v w)
  where
    by : (b c : Bool) → cond b 2 (cond c 1 0) ≤ 2
    by true c = omega arith
    by false true = omega arith
    by false false = omega arith

group-few : (i : ℕ) (ss : List Subject) → length (group_of i ss) ≤ length ss
group-few i [] = omega arith
group-few i (s ∷ ss) = by (nat_eq s.label i) (group-few i ss)
  where
    by : (b : Bool) → length (group_of i ss) ≤ length ss → length (cond b (s ∷ group_of i ss) (group_of i ss)) ≤ suc (length ss)
    by true h = omega (arith, h)
    by false h = omega (arith, h)

pair-few : (ss : List Subject) (n : ℕ) → length ss ≤ n → (q : UsedPair) → pair_points ss q ≤ (2 * n) * n
pair-few ss n h q =
    let inner : (a : Subject) → sum_by (λ (b : Subject). points a.value b.value) (group_of q.greater ss) ≤ 2 * n = λ a. omega (arith, sum-within (λ (b : Subject). points a.value b.value) 2 (λ b. points-few a.value b.value) (group_of q.greater ss), group-few q.greater ss, h) in
    let most : (2 * n) * length (group_of q.lesser ss) ≤ (2 * n) * n = mul-le-mul_left (2 * n) (omega (arith, group-few q.lesser ss, h)) in
    omega (arith, (sum-within (λ (a : Subject). sum_by (λ (b : Subject). points a.value b.value) (group_of q.greater ss)) (2 * n) inner (group_of q.lesser ss)), most)

pub statistic-few : (qs : List UsedPair) (values : List ℤ) (xs : List ℕ) → length qs ≤ 64 → length values ≤ 10000 → sum_by (pair_points (paired_subjects values xs)) qs ≤ 12800000000
statistic-few qs values xs few h =
    let all = sum-within (pair_points (paired_subjects values xs)) ((2 * 10000) * 10000) (pair-few (paired_subjects values xs) 10000 (omega (arith, paired-few values xs, h))) qs in
    omega (arith, all, few)

-- ---- of ordered groups

-- the points of labels in their columns are their statistic
pub statistic-is : (samples : PeakedGroups) → length (group_sizes samples.groups) ≤ 8 → (xs : List ℕ) → length xs ≡ length (pooled_values samples.groups) → counts_of (length (group_sizes samples.groups)) xs ≡ group_sizes samples.groups
    → points_from (used_pairs samples.peak (length (group_sizes samples.groups))) (group_sizes samples.groups) (group_sizes samples.groups) (column_sizes (pooled_values samples.groups)) xs ≡ sum_by (pair_points (paired_subjects (pooled_values samples.groups) xs)) (used_pairs samples.peak (length (group_sizes samples.groups)))
statistic-is samples few xs long counted =
    let sizes : List ℕ = group_sizes samples.groups in
    let values : List ℤ = pooled_values samples.groups in
    let qs : List UsedPair = used_pairs samples.peak (length sizes) in
    points-are qs sizes (pairs-are samples.peak (length sizes) few) (tie_groups values) sizes xs (groups-ascend values) (long ∙ sym (columns-sum (pooled_values samples.groups))) counted (fits-self sizes)
    ∙ sum_by-same _ _ (λ q. none (slice_index sizes q.lesser) (slice_index sizes q.greater) _) qs
    ∙ ap (λ vs. sum_by (pair_points (paired_subjects vs xs)) qs) (grouped (λ v. v) values (pooled-rises samples.groups) ∙ map-id values)
  where
    none : (a b d : ℕ) → 2 * ((a - a) * b) + d ≡ d
    none a b d = let e : a - a ≡ 0 = omega arith in rw e (omega arith)

small-square : (n : ℕ) → n ≤ 10000 → n * n ≤ MAX
small-square n h = let most = mul-le-mul h h in omega (arith, most)

module _ (samples : PeakedGroups) (made : CountedSamples) (f : AreCounted samples made) where
  abbrev sizes : List ℕ
  sizes = group_sizes samples.groups

  abbrev values : List ℤ
  values = pooled_values samples.groups

  abbrev pairs : List UsedPair
  pairs = used_pairs samples.peak (length sizes)

  few_sizes : sum sizes ≤ 10000
  few_sizes = omega (arith, f.whole, f.few)

  pub pairs_are : ArePairs (length sizes) pairs
  pairs_are = pairs-are samples.peak (length sizes) f.few_rows

  centre-few : subject_pairs pairs sizes ≤ 6400000000
  centre-few = pairs-most pairs sizes pairs_are.few few_sizes

  count-fits : (n : ℕ) → n ≤ 12800000000 → RuleFits (Far 1 (pos (subject_pairs pairs sizes)) 0) (pos n)
  count-fits n h = far_natural-fits 1 (subject_pairs pairs sizes) n (lit≤ tt) (omega (arith, centre-few)) (omega (arith, h))

  pub within : IsWithin (umbrella_says samples)
  within = record {
    few = omega (arith, f.few_rows);
    total_fits = f.total_fits;
    shown = refl;
    observed = f.observed;
    fits = λ xs a. count-fits _ (statistic-few pairs values xs pairs_are.few f.few);
  }

  pub bound-fits : (umbrella_says samples).bound ≤ MAX
  bound-fits = small-square (length values) f.few

  pub points-of : (xs : List ℕ) → Contains (labellings sizes) xs → points_from pairs sizes sizes (column_sizes values) xs ≡ sum_by (pair_points (paired_subjects values xs)) pairs
  points-of xs m = let labelling = labelling_from sizes xs m in statistic-is samples f.few_rows xs (labelling.over.long ∙ f.whole) labelling.counted

  pub is-counting : (judge : Judge) → judge ≡ judge_of (umbrella_test samples) → IsCounting pairs sizes (column_sizes values) judge
  is-counting judge e = record {
    pairs_are = pairs_are;
    level = columns-sum (pooled_values samples.groups) ∙ sym f.whole;
    few = few_sizes;
    few_rows = f.few_rows;
    rules_fit = λ n h. label-judge (umbrella_says samples) within judge e (pos n) (count-fits n (omega (arith, h, centre-few)));
  }

  pub umbrella-sound : IsSound (umbrella_says samples) (label_network (umbrella_meaning samples)) (label_network (umbrella_meaning samples))
  umbrella-sound =
      let judge : Judge = judge_of (umbrella_test samples) in
      label-sound (umbrella_says samples) (umbrella_meaning samples) within (pairs_measure pairs sizes (column_sizes values) judge (is-counting judge refl)) refl refl (λ xs m. ap pos (sym (points-of xs m)) ∙ sym (value-is pairs sizes (column_sizes values) judge xs))
