-- The lines of the rank sum of groups without ties.
use Rattle.std.proofs.Common.{◌≡◌, ℕ, zero, suc, ◌+◌, ◌*◌, ◌<◌, ◌≤◌, Bool, false, cond, nat_eq, List, [], ◌∷◌, length, Some, None, refl, sym, ap, ◌∙◌, subst, arith}
use Rattle.std.specs.Prelude.{ℤ, pos, int_le, nat_lt, slice_index, Contains, IfOk, Result, Ok, Err}
use Rattle.std.specs.List.{AllByRecursion, count_by, filter, sum}
use Rattle.std.proofs.lemmas.Bool.Decides.{nat_tests}
use Rattle.std.proofs.lemmas.Int.{ints}
use Rattle.std.proofs.lemmas.List.Elements.{All-contains_itself, recursion_from_All}
use Rattle.std.proofs.lemmas.List.FromFn.{length-map-range_with_len}
use Rattle.std.proofs.lemmas.List.Sums.{sum_by-cons}
use Rattle.weights.specs.Conditional.{distribution, total}
use Rattle.weights.specs.Labellings.{labellings, number_of_labellings}
use Rattle.weights.specs.Numbers.{absolute_sum}
use Rattle.weights.specs.Wide.{Prepares, too_wide}
use Rattle.weights.specs.declared.wide.WideOf.{WideOf}
use Rattle.weights.specs.declared.wide.PrepareFault.{PrepareFault}
use Rattle.weights.specs.declared.wide.PrepareFault.TheVariants.{TooWide}
use Rattle.weights.specs.declared.wide.WideOf.TheVariants.{Total, Statistic}
use Rattle.weights.specs.declared.lines.Line.{Line}
use Rattle.weights.specs.declared.TheConstants.{MAX}
use Rattle.weights.proofs.Filters.{all_weaker, filter-same_where}
use Rattle.weights.proofs.Members.{IsLabelling, labelling_from}
use Rattle.weights.proofs.Sums.{sum_by-one}
use Rattle.scores.specs.Scores.{labelled_sum, score_list}
use Rattle.scores.specs.declared.kinds.ScoreKind.TheVariants.{Wilcoxon}
use Rattle.sample_reader.specs.Data.{data_of}
use Rattle.sample_reader.specs.Groups.{GroupData, group_sizes}
use Rattle.sample_reader.specs.declared.samples.Groups.{Groups}
use Rattle.networks.specs.Lines.{WeightsFit, line_sum}
use Rattle.pooled_columns.specs.PooledColumns.{pooled_values}
use Rattle.two_sample_tests.specs.TwoSamples.{TwoSamples, pooled_scores, two_sample_test}
use Rattle.distribution.proofs.TailLaw.{distribution-sum}
use Rattle.shift_limits.specs.LaterPairs.{labellings_below, later_pairs}
use Rattle.shift_limits.specs.LimitSteps.{AreRankLines, rank_sum, untied}
use Rattle.shift_limits.proofs.RankSums.{doubled_ranks, rank-sum-from, seconds}
use Rattle.shift_limits.proofs.Sampled.{sizes-are}
use Rattle.shift_limits.proofs.UntiedRanks.{counted, counted-in-order, counted-scores, counted-values, ranks-bound}

-- ---- one labelling

-- so many subjects of the first sample and of the second
module _ (first second : ℕ) where
  sizes : List ℕ
  sizes = first ∷ second ∷ []

  number : ℕ
  number = first + second

  -- of which the rank sum is at most that of so many later pairs
  abbrev is_low : ℕ → List ℕ → Bool
  is_low k xs = int_le (labelled_sum 1 (doubled_ranks 0 number) xs) (rank_sum second k)

  at-most : (s u k m : ℕ) → s ≡ 2 * u + m → int_le (pos s) (pos (2 * k + m)) ≡ nat_lt u (k + 1)
  at-most s u k m e = grind (arith, ints, nat_tests, e)

  sum-two : sum sizes ≡ number
  unfolding sizes number
  sum-two = omega (arith, sum_by-cons (λ v. v) first (second ∷ []), sum_by-cons (λ v. v) second [])

  low-where : (k : ℕ) (xs : List ℕ) → IsLabelling sizes xs → is_low k xs ≡ nat_lt (later_pairs xs) (k + 1)
  unfolding sizes number
  low-where k xs l =
      let long : length xs ≡ first + second = l.over.long ∙ sum-two in
      let many : seconds xs ≡ second = ap (λ counts. slice_index counts 1) l.counted in
      let told : labelled_sum 1 (doubled_ranks 0 (first + second)) xs ≡ pos (2 * later_pairs xs + seconds xs * (seconds xs + 1) + 2 * 0 * seconds xs) = ap (λ n. labelled_sum 1 (doubled_ranks 0 n) xs) (sym long) ∙ rank-sum-from 0 xs l.over.below in
      let whole : 2 * later_pairs xs + seconds xs * (seconds xs + 1) + 2 * 0 * seconds xs ≡ 2 * later_pairs xs + second * (second + 1) = ap (λ n. 2 * later_pairs xs + n * (n + 1) + 2 * 0 * n) many ∙ omega arith in
      ap (λ t. int_le t (rank_sum second k)) told ∙ at-most _ (later_pairs xs) k (second * (second + 1)) whole

  labellings-each : AllByRecursion (IsLabelling sizes) (labellings sizes)
  labellings-each = all_weaker (λ xs. Contains (labellings sizes) xs) (IsLabelling sizes) (λ xs c. labelling_from sizes xs c) (labellings sizes) (recursion_from_All (λ xs. Contains (labellings sizes) xs) (labellings sizes) (All-contains_itself (labellings sizes)))

pub low-labellings : (first second k : ℕ) → length (filter (λ xs. int_le (labelled_sum 1 (doubled_ranks 0 (first + second)) xs) (rank_sum second k)) (labellings (first ∷ second ∷ []))) ≡ labellings_below (first ∷ second ∷ []) (k + 1)
unfolding sizes number
low-labellings first second k =
    ap length (filter-same_where (IsLabelling (first ∷ second ∷ [])) (is_low first second k) (λ xs. nat_lt (later_pairs xs) (k + 1)) (low-where first second k) (labellings (first ∷ second ∷ [])) (labellings-each first second))

-- ---- of groups

abbrev pub untied_samples : Groups → TwoSamples
untied_samples groups = record { kind = Wilcoxon; groups = untied (data_of groups) }

-- each of two labels counts its subjects
two-counts : (members : List ℕ) → AllByRecursion (λ m. m < 2) members → count_by (λ l. nat_eq l 0) members + count_by (λ l. nat_eq l 1) members ≡ length members
two-counts [] all = refl
two-counts (m ∷ members) all = omega (arith, two-counts members all.1, one m all.0, sum_by-cons (λ l. cond (nat_eq l 0) 1 0) m members, sum_by-cons (λ l. cond (nat_eq l 1) 1 0) m members)
  where
    one : (l : ℕ) → l < 2 → cond (nat_eq l 0) 1 0 + cond (nat_eq l 1) 1 0 ≡ 1
    one zero h = refl
    one (suc zero) h = refl
    one (suc (suc l)) h = absurd (omega (arith, h))

module _ (groups : Groups) where
  untied-values : pooled_values (untied (data_of groups)) ≡ counted 0 (length groups.members)
  untied-values = rw (← groups.one_group_each, counted-in-order 0 groups.members) (counted-values 0 groups.members)

  untied-scores : pooled_scores (untied_samples groups) ≡ doubled_ranks 0 (length groups.members)
  untied-scores = ap (score_list Wilcoxon) untied-values ∙ counted-scores (length groups.members)

  few : length groups.members ≤ 10000
  few = omega (arith, groups.one_group_each, groups.few_enough)

  bound-fits : (two_sample_test (untied_samples groups)).bound ≤ MAX
  bound-fits = subst (λ scores. 2 * length scores * absolute_sum scores ≤ MAX) (sym untied-scores) (subst (λ n. 2 * n * absolute_sum (doubled_ranks 0 (length groups.members)) ≤ MAX) (sym (length-map-range_with_len (λ i. pos (2 * i + 2)) 0 (length groups.members))) (ranks-bound (length groups.members) few))

  pub never-wide : number_of_labellings groups.sizes ≤ MAX → too_wide (two_sample_test (untied_samples groups)) ≡ None
  never-wide fits = none (nat_lt MAX (total (two_sample_test (untied_samples groups)))) (not-less _ _ (omega (arith, total-is, fits))) (nat_lt MAX (two_sample_test (untied_samples groups)).bound) (not-less _ _ bound-fits)
    where
      total-is : total (two_sample_test (untied_samples groups)) ≡ number_of_labellings groups.sizes
      total-is = sum_by-one (labellings (group_sizes (data_of groups))) ∙ ap number_of_labellings (sym groups.counted)

      not-less : (a b : ℕ) → b ≤ a → nat_lt a b ≡ false
      not-less a b h = grind (arith, nat_tests)

      none : (a : Bool) → a ≡ false → (b : Bool) → b ≡ false → cond a (Some Total) (cond b (Some Statistic) None) ≡ None
      none a e b f = rw (e, f) refl

  module _ (two : length groups.labels ≡ 2) where
    pub rank-lines : (lines : List Line) → lines ≡ distribution (two_sample_test (untied_samples groups)) → WeightsFit lines → AreRankLines groups.sizes lines
    rank-lines lines e fit = record {
      two = ap length (sizes-are groups two);
      few = omega (arith, few, second-part);
      fit = fit;
      counted = at-most-counted;
    }
      where
        firsts : ℕ
        firsts = count_by (λ l. nat_eq l 0) groups.members

        lasts : ℕ
        lasts = count_by (λ l. nat_eq l 1) groups.members

        below-two : AllByRecursion (λ m. m < 2) groups.members
        below-two = subst (λ k. AllByRecursion (λ m. m < k) groups.members) two (recursion_from_All (λ m. m < length groups.labels) groups.members groups.groups_exist)

        whole : firsts + lasts ≡ length groups.members
        whole = two-counts groups.members below-two

        second-is : slice_index groups.sizes 1 ≡ lasts
        second-is = ap (λ counts. slice_index counts 1) (sizes-are groups two)

        second-part : slice_index groups.sizes 1 ≤ length groups.members
        second-part = omega (arith, whole, second-is)

        low : ℕ → ℤ → Bool
        low k v = int_le v (rank_sum lasts k)

        summed : (k : ℕ) → line_sum (low k) lines ≡ length (filter (λ xs. low k (labelled_sum 1 (pooled_scores (untied_samples groups)) xs)) (labellings (group_sizes (data_of groups))))
        summed k = ap (line_sum (low k)) e ∙ distribution-sum (two_sample_test (untied_samples groups)) (low k) ∙ sum_by-one (filter (λ xs. low k (labelled_sum 1 (pooled_scores (untied_samples groups)) xs)) (labellings (group_sizes (data_of groups))))

        at-most-counted : (k : ℕ) → line_sum (λ v. int_le v (rank_sum (slice_index groups.sizes 1) k)) lines ≡ labellings_below groups.sizes (k + 1)
        at-most-counted k =
            ap (λ n. line_sum (λ v. int_le v (rank_sum n k)) lines) second-is
            ∙ summed k
            ∙ ap (λ scores. length (filter (λ xs. low k (labelled_sum 1 scores xs)) (labellings (group_sizes (data_of groups))))) (untied-scores ∙ ap (doubled_ranks 0) (sym whole))
            ∙ ap (λ sizes. length (filter (λ xs. low k (labelled_sum 1 (doubled_ranks 0 (firsts + lasts)) xs)) (labellings sizes))) (sym groups.counted ∙ sizes-are groups two)
            ∙ low-labellings firsts lasts k
            ∙ ap (λ sizes. labellings_below sizes (k + 1)) (sym (sizes-are groups two))

-- ---- what is prepared of them

pub refused : (groups : Groups) (made : GroupData) (r : Result TwoSamples PrepareFault) (what : WideOf) → number_of_labellings groups.sizes ≤ MAX → made ≡ untied (data_of groups)
    → r ≡ Err (TooWide what) → Prepares two_sample_test (record { kind = Wilcoxon; groups = made }) r → ⊥
refused groups made r what fits e f prepared =
    let wide : too_wide (two_sample_test (record { kind = Wilcoxon; groups = made })) ≡ Some what = subst (Prepares two_sample_test (record { kind = Wilcoxon; groups = made })) f prepared in
    none-some (sym (never-wide groups fits) ∙ ap (λ groups. too_wide (two_sample_test (record { kind = Wilcoxon; groups = groups }))) (sym e) ∙ wide)
  where
    none-some : {what : WideOf} → None ≡ Some what → ⊥
    none-some e = cc e

pub are-rank-lines : {F : Type 0} (groups : Groups) (two : length groups.labels ≡ 2) (samples : TwoSamples) (r : Result (List Line) F) → samples ≡ untied_samples groups
    → IfOk r (λ lines. lines ≡ distribution (two_sample_test samples)) → IfOk r WeightsFit → IfOk r (AreRankLines groups.sizes)
are-rank-lines groups two samples (Ok lines) e is fit = rank-lines groups two lines (is ∙ ap (λ samples. distribution (two_sample_test samples)) e) fit
are-rank-lines groups two samples (Err fault) e is fit = tt
