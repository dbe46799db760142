-- Where groups rise and no two subjects are equal, each concordant pair adds 2.
use Rattle.std.proofs.Common.{◌≡◌, ℕ, ◌+◌, ◌*◌, ◌<◌, ◌≤◌, Bool, true, false, cond, List, [], ◌∷◌, length, map, take, drop, refl, sym, ◌∙◌, ap, subst, arith, nat_eq, nat_lt, inl, inr}
use Rattle.std.specs.Prelude.{ℤ, pos, ◌+ℤ◌}
use Rattle.std.specs.List.{AllByRecursion, count_by, flat_map, sum, sum_by}
use Rattle.std.proofs.lemmas.Bool.{cases_lt}
use Rattle.std.proofs.lemmas.Int.{ints}
use Rattle.std.proofs.lemmas.Bool.Decides.{nat_tests}
use Rattle.std.proofs.lemmas.List.{map-id}
use Rattle.std.proofs.lemmas.List.Sums.{sum_by-cons}
use Rattle.weights.specs.declared.tails.Tail.{Tail}
use Rattle.weights.specs.Conditional.{numerator}
use Rattle.weights.specs.Labellings.{labels}
use Rattle.weights.proofs.Counted.{count_of}
use Rattle.weights.proofs.Members.{IsLabelling, range-below}
use Rattle.weights.proofs.Ranges.{range-none, range-one}
use Rattle.weights.proofs.Sums.{sum_by-flat_map, sum_by-plus, sum_by-same, sum_by-same_where, sum_by-scaled, sum_by-swap, sum_by-zero}
use Rattle.midranks.specs.Ties.{IsAscending, tie_groups}
use Rattle.midranks.specs.declared.ties.Tie.{Tie}
use Rattle.midranks.proofs.TieLemmas.{groups-ascend}
use Rattle.sample_reader.specs.Groups.{group_sizes}
use Rattle.sample_reader.specs.PooledSample.{paired_subjects}
use Rattle.networks.specs.declared.verdicts.Judge.{Judge}
use Rattle.networks.specs.Judged.{judge_of, rule_in}
use Rattle.later_scores.specs.LaterSums.{subjects}
use Rattle.labelled.specs.LabelTests.{IsWithin}
use Rattle.labelled.proofs.LabelLaws.{fit-by, numerator-by}
use Rattle.pooled_columns.specs.PooledColumns.{column_sizes, pooled_values}
use Rattle.pooled_columns.proofs.PooledValues.{pooled-rises}
use Rattle.pooled_columns.proofs.TieColumns.{columns-sum, grouped}
use Rattle.concordant_pairs.specs.ConcordantPairs.{are_distinct, concordant_pairs}
use Rattle.concordant_pairs.specs.ConcordantTails.{FitLabellings, even_value, passing_labellings}
use Rattle.concordant_pairs.proofs.OneEach.{all-one}
use Rattle.ordered_samples.specs.declared.used_pairs.UsedPair.{UsedPair}
use Rattle.ordered_samples.specs.Umbrella.{PeakedGroups, pair_of, pair_points, umbrella_says, umbrella_statistic, umbrella_test, used_pairs}
use Rattle.ordered_samples.proofs.PairValues.{across, column-pairs, rest-long}

-- ---- the pairs of groups that rise

one-alone : {X : Type 0} (f : X → ℕ) (x : X) → sum_by f (x ∷ []) ≡ f x
one-alone f x = omega arith

below : (n : ℕ) → AllByRecursion (λ l. l < n) (labels n)
below n = let none : 0 + n ≡ n = omega arith in subst (λ m. AllByRecursion (λ l. l < m) (labels n)) none (range-below 0 n)

-- over all pairs of groups, the lesser first
abbrev pub over_groups : (ℕ → ℕ → ℕ) → ℕ → ℕ
over_groups g k = sum_by (λ v. sum_by (λ u. g u v) (labels v)) (labels k)

over-same : (g h : ℕ → ℕ → ℕ) (k : ℕ) → ((u v : ℕ) → u < v → g u v ≡ h u v) → over_groups g k ≡ over_groups h k
over-same g h k e = sum_by-same (λ v. sum_by (λ u. g u v) (labels v)) (λ v. sum_by (λ u. h u v) (labels v)) (λ v. sum_by-same_where (λ u. u < v) (λ u. g u v) (λ u. h u v) (λ u l. e u v l) (labels v) (below v)) (labels k)

over-plus : (g h : ℕ → ℕ → ℕ) (k : ℕ) → over_groups (λ u v. g u v + h u v) k ≡ over_groups g k + over_groups h k
over-plus g h k =
    sum_by-same (λ v. sum_by (λ u. g u v + h u v) (labels v)) (λ v. sum_by (λ u. g u v) (labels v) + sum_by (λ u. h u v) (labels v)) (λ v. sum_by-plus (λ u. g u v) (λ u. h u v) (labels v)) (labels k)
    ∙ sum_by-plus (λ v. sum_by (λ u. g u v) (labels v)) (λ v. sum_by (λ u. h u v) (labels v)) (labels k)

over-scaled : (a : ℕ) (g : ℕ → ℕ → ℕ) (k : ℕ) → over_groups (λ u v. a * g u v) k ≡ a * over_groups g k
over-scaled a g k =
    sum_by-same (λ v. sum_by (λ u. a * g u v) (labels v)) (λ v. a * sum_by (λ u. g u v) (labels v)) (λ v. sum_by-scaled a (λ u. g u v) (labels v)) (labels k)
    ∙ sum_by-scaled a (λ v. sum_by (λ u. g u v) (labels v)) (labels k)

-- they are the used ones where the peak is the last group
used-pairs : (peak k : ℕ) → k ≤ peak → (g : UsedPair → ℕ) → sum_by g (used_pairs peak k) ≡ over_groups (λ u v. g (record { lesser = u; greater = v })) k
used-pairs peak k h g =
    sum_by-flat_map g (λ v. flat_map (λ u. pair_of peak u v) (labels v)) (labels k)
    ∙ sum_by-same_where (λ v. v < k) (λ v. sum_by g (flat_map (λ u. pair_of peak u v) (labels v))) (λ v. sum_by (λ u. g (record { lesser = u; greater = v })) (labels v)) each (labels k) (below k)
  where
    alone : (u v : ℕ) → nat_lt v peak ≡ true → sum_by g (pair_of peak u v) ≡ g (record { lesser = u; greater = v })
    alone u v e = rw e (one-alone g (record { lesser = u; greater = v }))

    lower : (v : ℕ) → v < k → nat_lt v peak ≡ true
    lower v l = grind (arith, nat_tests, h, l)

    each : (v : ℕ) → v < k → sum_by g (flat_map (λ u. pair_of peak u v) (labels v)) ≡ sum_by (λ u. g (record { lesser = u; greater = v })) (labels v)
    each v l =
        sum_by-flat_map g (λ u. pair_of peak u v) (labels v)
        ∙ sum_by-same (λ u. sum_by g (pair_of peak u v)) (λ u. g (record { lesser = u; greater = v })) (λ u. alone u v (lower v l)) (labels v)

-- ---- the first subject, with each later one of a later group

with-first : (x k : ℕ) (xs : List ℕ) → AllByRecursion (λ y. y < k) xs → over_groups (λ u v. cond (nat_eq x u) (count_of v xs) 0) k ≡ count_by (λ y. nat_lt x y) xs
with-first x k xs all =
    sum_by-same (λ v. sum_by (λ u. cond (nat_eq x u) (count_of v xs) 0) (labels v)) (λ v. sum_by (λ y. cond (nat_eq y v) (cond (nat_lt x v) 1 0) 0) xs) each (labels k)
    ∙ sum_by-swap (λ v y. cond (nat_eq y v) (cond (nat_lt x v) 1 0) 0) (labels k) xs
    ∙ sum_by-same_where (λ y. y < k) (λ y. sum_by (λ v. cond (nat_eq y v) (cond (nat_lt x v) 1 0) 0) (labels k)) (λ y. cond (nat_lt x y) 1 0) (λ y l. range-one (λ v. cond (nat_lt x v) 1 0) y 0 k (omega arith) (omega (arith, l))) xs all
  where
    counted : (v : ℕ) (b : Bool) (ys : List ℕ) → cond b (count_of v ys) 0 ≡ sum_by (λ y. cond (nat_eq y v) (cond b 1 0) 0) ys
    counted v true ys = refl
    counted v false ys = sym (sum_by-same (λ y. cond (nat_eq y v) 0 0) (λ y. 0) (λ y. none (nat_eq y v)) ys ∙ sum_by-zero ys)
      where
        none : (b : Bool) → ◌≡◌ {A = ℕ} (cond b 0 0) 0
        none true = refl
        none false = refl

    each : (v : ℕ) → sum_by (λ u. cond (nat_eq x u) (count_of v xs) 0) (labels v) ≡ sum_by (λ y. cond (nat_eq y v) (cond (nat_lt x v) 1 0) 0) xs
    each v = elim (cases_lt x v) [
      | inl less ↦ range-one (λ u. count_of v xs) x 0 v (omega arith) (omega (arith, less)) ∙ is-less less ∙ counted v (nat_lt x v) xs
      | inr more ↦ range-none (λ u. count_of v xs) x 0 v (inr (omega (arith, more))) ∙ is-more more ∙ counted v (nat_lt x v) xs
    ]
      where
        is-less : x < v → count_of v xs ≡ cond (nat_lt x v) (count_of v xs) 0
        is-less less = grind (arith, nat_tests, less)

        is-more : v ≤ x → 0 ≡ cond (nat_lt x v) (count_of v xs) 0
        is-more more = grind (arith, nat_tests, more)

-- ---- all subjects

-- the values of ascending groups, each as often as it occurs
abbrev values_of_ties : List Tie → List ℤ
values_of_ties ts = subjects (map (λ t. t.value) ts) (map (λ t. t.count) ts)

no-subjects : (u v : ℕ) → across u v (paired_subjects [] []) (paired_subjects [] []) ≡ 0
unfolding paired_subjects
no-subjects u v = refl

over-none : (k : ℕ) → over_groups (λ u v. 0) k ≡ 0
over-none k = sum_by-same (λ v. sum_by (λ u. 0) (labels v)) (λ v. 0) (λ v. sum_by-zero (labels v)) (labels k) ∙ sum_by-zero (labels k)

-- one subject of a column, and two groups
one-column : (u v x n : ℕ) → u < v → (count_of u (x ∷ []) * count_of v (x ∷ []) + 2 * (count_of u (x ∷ []) * n)) ≡ 2 * cond (nat_eq x u) n 0
one-column u v x n l = by (nat_eq x u) (nat_eq x v) (one-alone (λ y. cond (nat_eq y u) 1 0) x) (one-alone (λ y. cond (nat_eq y v) 1 0) x) apart
  where
    apart : nat_eq x u ≡ true → nat_eq x v ≡ true → ⊥
    apart a b = grind (arith, nat_tests, l, a, b)

    by : (b c : Bool) → count_of u (x ∷ []) ≡ cond b 1 0 → count_of v (x ∷ []) ≡ cond c 1 0 → (b ≡ true → c ≡ true → ⊥) → (count_of u (x ∷ []) * count_of v (x ∷ []) + 2 * (count_of u (x ∷ []) * n)) ≡ 2 * cond b n 0
    by true true e f none = absurd (none refl refl)
    by true false e f none = rw (e, f) (omega arith)
    by false c e f none = rw e (omega arith)

pub concordant-points : (k : ℕ) (ts : List Tie) (xs : List ℕ) → IsAscending ts → AllByRecursion (λ t. t.count ≡ 1) ts → length xs ≡ sum (map (λ t. t.count) ts) → AllByRecursion (λ y. y < k) xs
    → over_groups (λ u v. across u v (paired_subjects (values_of_ties ts) xs) (paired_subjects (values_of_ties ts) xs)) k ≡ 2 * concordant_pairs xs
concordant-points k [] [] up one long all = over-same (λ u v. across u v (paired_subjects [] []) (paired_subjects [] [])) (λ u v. 0) k (λ u v l. no-subjects u v) ∙ over-none k
concordant-points k [] (x ∷ xs) up one long all = absurd (omega (arith, long))
concordant-points k (t ∷ ts) [] up one long all = absurd (omega (arith, long, one.0, sum_by-cons (λ v. v) t.count (map (λ t. t.count) ts)))
concordant-points k (t ∷ ts) (x ∷ xs) up one long all =
    let rest : List ℤ = values_of_ties ts in
    let behind = rw one.0 at (rest-long t ts up (x ∷ xs) long) in
    over-same (λ u v. across u v (paired_subjects (values_of_ties (t ∷ ts)) (x ∷ xs)) (paired_subjects (values_of_ties (t ∷ ts)) (x ∷ xs))) (λ u v. 2 * cond (nat_eq x u) (count_of v xs) 0 + across u v (paired_subjects rest xs) (paired_subjects rest xs)) k each
    ∙ over-plus (λ u v. 2 * cond (nat_eq x u) (count_of v xs) 0) (λ u v. across u v (paired_subjects rest xs) (paired_subjects rest xs)) k
    ∙ both (over-scaled 2 (λ u v. cond (nat_eq x u) (count_of v xs) 0) k ∙ ap (λ n. 2 * n) (with-first x k xs all.1)) (concordant-points k ts xs up.1 one.1 behind all.1)
    ∙ shared (count_by (λ y. nat_lt x y) xs) (concordant_pairs xs)
  where
    both : {x y v w : ℕ} → x ≡ v → y ≡ w → x + y ≡ v + w
    both e h = rw (e, h) refl

    shared : (a b : ℕ) → 2 * a + 2 * b ≡ 2 * (a + b)
    shared a b = omega arith

    each : (u v : ℕ) → u < v → across u v (paired_subjects (values_of_ties (t ∷ ts)) (x ∷ xs)) (paired_subjects (values_of_ties (t ∷ ts)) (x ∷ xs)) ≡ 2 * cond (nat_eq x u) (count_of v xs) 0 + across u v (paired_subjects (values_of_ties ts) xs) (paired_subjects (values_of_ties ts) xs)
    each u v l =
        let rest : List ℤ = values_of_ties ts in
        column-pairs t ts up (x ∷ xs) long u v
        ∙ ap (λ n. (count_of u (take n (x ∷ xs)) * count_of v (take n (x ∷ xs)) + 2 * (count_of u (take n (x ∷ xs)) * count_of v (drop n (x ∷ xs)))) + across u v (paired_subjects rest (drop n (x ∷ xs))) (paired_subjects rest (drop n (x ∷ xs)))) one.0
        ∙ both (one-column u v x (count_of v xs) l) refl

-- ---- the test

module _ (samples : PeakedGroups) where
  abbrev sizes : List ℕ
  sizes = group_sizes samples.groups

  abbrev values : List ℤ
  values = pooled_values samples.groups

  each-one : (ts : List Tie) → AllByRecursion (λ c. c ≡ 1) (map (λ t. t.count) ts) → AllByRecursion (λ t. t.count ≡ 1) ts
  each-one [] a = tt
  each-one (t ∷ ts) a = (a.0, each-one ts a.1)

  module _ (rises : length sizes ≤ samples.peak) (distinct : are_distinct (column_sizes values) ≡ true) (whole : sum sizes ≡ length values) where
    statistic-rises : (xs : List ℕ) → IsLabelling sizes xs → umbrella_statistic (used_pairs samples.peak (length sizes)) values xs ≡ even_value (pos 0) 2 (concordant_pairs xs)
    statistic-rises xs l =
        let ts : List Tie = tie_groups values in
        ap pos (
        used-pairs samples.peak (length sizes) rises (pair_points (paired_subjects values xs))
        ∙ ap (λ vs. over_groups (λ u v. across u v (paired_subjects vs xs) (paired_subjects vs xs)) (length sizes)) (sym (grouped (λ v. v) values (pooled-rises samples.groups) ∙ map-id values))
        ∙ concordant-points (length sizes) ts xs (groups-ascend values) (each-one ts (all-one (column_sizes values) distinct)) (l.over.long ∙ whole ∙ sym (columns-sum (pooled_values samples.groups))) l.over.below
        )
        ∙ from-none (2 * concordant_pairs xs)
      where
        from-none : (n : ℕ) → pos n ≡ pos 0 +ℤ pos n
        from-none n = omega (arith, ints)

    pub numerator-rises : (tail : Tail) → numerator (umbrella_test samples) tail ≡ passing_labellings (rule_in (judge_of (umbrella_test samples)) tail) (pos 0) 2 sizes
    numerator-rises = numerator-by (umbrella_says samples) (λ xs. even_value (pos 0) 2 (concordant_pairs xs)) statistic-rises

    pub fit-concordant : (judge : Judge) → judge ≡ judge_of (umbrella_test samples) → IsWithin (umbrella_says samples) → FitLabellings judge (pos 0) 2 sizes
    fit-concordant = fit-by (umbrella_says samples) (λ xs. even_value (pos 0) 2 (concordant_pairs xs)) statistic-rises
