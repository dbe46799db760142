-- What holds of the test of a sample: its scores are not negative, and where it is refused.
use Rattle.std.proofs.Common.{◌≡◌, ℕ, zero, suc, ◌+◌, ◌*◌, ◌^◌, ◌≤◌, Bool, true, false, cond, not, List, [], ◌∷◌, ◌++◌, length, length-append, map, replicate, Err, inl, inr, refl, sym, ◌∙◌, ap, arith, lit≤}
use Rattle.std.specs.Prelude.{ℤ, pos, negsuc, ◌-ℤ◌, ◌≤ℤ◌, nat_abs, int_lt, slice_index, All}
use Rattle.std.specs.List.{AllByRecursion}
use Rattle.std.specs.Ordering.{int_eq}
use Rattle.std.proofs.Math.Nat.{one-le-pow, pow-le-pow_right}
use Rattle.std.proofs.lemmas.Bool.{cases_lt}
use Rattle.std.proofs.lemmas.Int.{ints}
use Rattle.std.proofs.lemmas.List.{length-map, length-replicate}
use Rattle.std.proofs.lemmas.List.Elements.{All-from_recursion, recursion_from_All}
use Rattle.std.proofs.lemmas.List.Sums.{count_by-le-length, length-filter}
use Rattle.weights.specs.declared.rules.Rule.TheVariants.{Far}
use Rattle.weights.specs.declared.tails.Tail.{Tail}
use Rattle.weights.specs.declared.TheConstants.{MAX}
use Rattle.weights.specs.declared.wide.WideOf.TheVariants.{Total, Statistic}
use Rattle.weights.specs.declared.wide.PrepareFault.{PrepareFault}
use Rattle.weights.specs.declared.wide.PrepareFault.TheVariants.{TooWide, NoMemory}
use Rattle.weights.specs.Conditional.{ConditionalTest, total, unit_weight}
use Rattle.weights.specs.Labellings.{sign_lists}
use Rattle.weights.specs.Rules.{RuleFits, measured}
use Rattle.weights.specs.Wide.{Prepares}
use Rattle.weights.proofs.Centred.{IsCentred, bound-wide, far_natural-fits, measured-is, rule-fits}
use Rattle.weights.proofs.Filters.{all_append}
use Rattle.weights.proofs.Sums.{absolute_sum-by, sum_by-filter, sum_by-one, sum_by-same}
use Rattle.midranks.specs.Midranks.{doubled_midrank}
use Rattle.midranks.specs.Ties.{tie_groups, values_in, with_one_more}
use Rattle.midranks.specs.declared.ties.Tie.{Tie}
use Rattle.midranks.proofs.TieLemmas.{sum_by-groups, summed}
use Rattle.scores.specs.RawScores.{decimals, raw_score}
use Rattle.scores.specs.Scores.{labelled_sum}
use Rattle.weights.specs.Numbers.{absolute_sum}
use Rattle.scores.proofs.LabelledSums.{labelled-least, labelled-most}
use Rattle.networks.specs.Follows.{Follows}
use Rattle.networks.specs.Judged.{JudgeFits, judge_of}
use Rattle.networks.specs.declared.verdicts.Judge.{Judge}
use Rattle.networks.proofs.AdditiveLaws.{additive_intervals}
use Rattle.networks.proofs.Following.{judge-fits}
use Rattle.labelled.specs.UnweightedTests.{CanBeAnswered}
use Rattle.labelled.proofs.UnweightedLaws.{can-be-answered}
use Rattle.table_reader.specs.TableLayout.{TableData}
use Rattle.one_sample_tests.specs.declared.kinds.SignKind.{SignKind}
use Rattle.one_sample_tests.specs.declared.kinds.SignKind.TheVariants.{SignedRank, Sign, RawSigned}
use Rattle.one_sample_tests.specs.SignedSamples.{SignedSample, discordant, magnitudes, nonzero, one_sample_test, sign_scores, signs_of, used_scores, used_sizes}
use Rattle.one_sample_tests.specs.SignNetwork.{mark_addends, mark_network}
use Rattle.one_sample_tests.specs.SampleSteps.{AreStages, IsMadeOf, sizes_in}
use Rattle.one_sample_tests.proofs.MarkNetwork.{ends_at, sound_stages}
use Rattle.one_sample_tests.proofs.MarkSums.{by_groups, by_marks, number_of_marks}

-- ---- scores

each-some : (f : ℤ → ℤ) → ((v : ℤ) → pos 0 ≤ℤ f v) → (vs : List ℤ) → AllByRecursion (λ s. pos 0 ≤ℤ s) (map f vs)
each-some f h [] = tt
each-some f h (v ∷ vs) = (h v, each-some f h vs)

raw-some : (d n : ℕ) → pos 0 ≤ℤ raw_score d (pos n)
unfolding raw_score
raw-some d n = omega (arith, ints)

raws-some : (d : ℕ) (ds : List ℤ) → AllByRecursion (λ s. pos 0 ≤ℤ s) (map (raw_score d) (magnitudes ds))
raws-some d [] = tt
raws-some d (x ∷ ds) = (raw-some d (nat_abs x), raws-some d ds)

scores-some : (kind : SignKind) (ds : List ℤ) → AllByRecursion (λ s. pos 0 ≤ℤ s) (sign_scores kind (magnitudes ds))
scores-some SignedRank ds = each-some (λ v. pos (doubled_midrank (magnitudes ds) v)) (λ v. omega (arith, ints)) (magnitudes ds)
scores-some Sign ds = each-some (λ v. pos 1) (λ v. omega (arith, ints)) (magnitudes ds)
scores-some RawSigned ds = raws-some (decimals (magnitudes ds)) ds

pub used-some : (sample : SignedSample) → AllByRecursion (λ s. pos 0 ≤ℤ s) (used_scores sample)
used-some sample = scores-some sample.kind (nonzero sample.differences)

as-many : (kind : SignKind) (sizes : List ℤ) → length (sign_scores kind sizes) ≡ length sizes
as-many SignedRank sizes = length-map sizes _
as-many Sign sizes = length-map sizes _
as-many RawSigned sizes = length-map sizes _

pub used-many : (sample : SignedSample) → length (used_scores sample) ≡ length (nonzero sample.differences)
used-many sample = as-many sample.kind (used_sizes sample) ∙ length-map (nonzero sample.differences) (λ d. pos (nat_abs d))

-- ---- the test

pub total-of : (sample : SignedSample) → total (one_sample_test sample) ≡ 2 ^ length (used_scores sample)
total-of sample = number_of_marks (length (used_scores sample))

total-some : (n : ℕ) → 1 ≤ 2 ^ n
total-some n = one-le-pow n 2 (lit≤ tt)

pub value-fits : (s : ℕ) → 2 * s ≤ MAX → (v : ℤ) → pos 0 ≤ℤ v → v ≤ℤ pos s → RuleFits (Far 2 (pos s) 0) v
value-fits s bound (pos n) l h = let small : n ≤ s = omega (arith, ints) in far_natural-fits 2 s n (lit≤ tt) (omega (arith, bound)) (omega (arith, small, bound))
value-fits s bound (negsuc n) l h = absurd (omega (arith, ints, l))

-- ---- its network

one_more-some : (v : ℤ) (ts : List Tie) → pos 0 ≤ℤ v → AllByRecursion (λ (t : Tie). pos 0 ≤ℤ t.value) ts → AllByRecursion (λ (t : Tie). pos 0 ≤ℤ t.value) (with_one_more v ts)
one_more-some v [] h all = (h, tt)
one_more-some v (t ∷ ts) h all = by (int_lt v t.value) (int_eq v t.value) (one_more-some v ts h all.1)
  where
    by : (b c : Bool) → AllByRecursion (λ (t : Tie). pos 0 ≤ℤ t.value) (with_one_more v ts)
        → AllByRecursion (λ (t : Tie). pos 0 ≤ℤ t.value) (cond b (record { value = v; count = 1 } ∷ t ∷ ts) (cond c (record { value = v; count = t.count + 1 } ∷ ts) (t ∷ with_one_more v ts)))
    by true c rest = (h, all)
    by false true rest = (h, all.1)
    by false false rest = (all.0, rest)

groups-some : (scores : List ℤ) → AllByRecursion (λ s. pos 0 ≤ℤ s) scores → AllByRecursion (λ (t : Tie). pos 0 ≤ℤ t.value) (tie_groups scores)
unfolding tie_groups
groups-some [] all = tt
groups-some (s ∷ scores) all = one_more-some s (tie_groups scores) all.0 (groups-some scores all.1)

groups-count : (scores : List ℤ) → values_in (tie_groups scores) ≡ length scores
groups-count scores = sum_by-same (λ (t : Tie). t.count) (summed (λ v. 1)) (λ t. omega arith) (tie_groups scores) ∙ sum_by-groups (λ v. 1) scores ∙ sum_by-one scores

groups-size : (scores : List ℤ) → sizes_in (tie_groups scores) ≡ absolute_sum scores
groups-size scores = sum_by-groups nat_abs scores ∙ sym (absolute_sum-by scores)

module _ (sample : SignedSample) (total : 2 ^ length (used_scores sample) ≤ MAX) (bound : (one_sample_test sample).bound ≤ MAX) where
  sum-fits : (r : List ℕ) → RuleFits (Far 2 (pos (absolute_sum (used_scores sample))) 0) (labelled_sum 1 (used_scores sample) r)
  sum-fits r = value-fits (absolute_sum (used_scores sample)) bound (labelled_sum 1 (used_scores sample) r) (labelled-least 1 (used_scores sample) r (used-some sample)) (labelled-most 1 (used_scores sample) r)

  centred : IsCentred (one_sample_test sample) 2 (pos (absolute_sum (used_scores sample)))
  centred = record { by = refl; observed = sum-fits (signs_of (nonzero sample.differences)); each = λ r m. sum-fits r }

  extreme-fits : (n : ℕ) → n ≤ absolute_sum (used_scores sample) → JudgeFits (judge_of (one_sample_test sample)) (pos n)
  extreme-fits n h =
      let within = value-fits (absolute_sum (used_scores sample)) bound (pos n) (omega (arith, ints)) (omega (arith, ints, h)) in
      judge-fits (one_sample_test sample) (judge_of (one_sample_test sample)) refl (pos n) (λ tail. rule-fits (one_sample_test sample) centred tail (pos n) within)

  pub stages-fit : AreStages (tie_groups (used_scores sample)) (judge_of (one_sample_test sample))
  stages-fit = record {
    some = All-from_recursion (λ (t : Tie). pos 0 ≤ℤ t.value) (tie_groups (used_scores sample)) (groups-some (used_scores sample) (used-some sample));
    total_fits = rw (groups-count (used_scores sample)) total;
    sums_fit = omega (arith, groups-size (used_scores sample), bound);
    low_fits = extreme-fits 0 (omega arith);
    high_fits = extreme-fits (sizes_in (tie_groups (used_scores sample))) (omega (arith, groups-size (used_scores sample)));
  }

  follows : (tail : Tail) → Follows (one_sample_test sample) tail (mark_network sample)
  follows tail =
      let scores : List ℤ = used_scores sample in
      let groups : List Tie = tie_groups scores in
      let test : ConditionalTest = one_sample_test sample in
      let judge : Judge = judge_of test in
      record {
        intervals = additive_intervals (mark_addends groups judge) (sound_stages groups judge stages-fit);
        ends = λ p.
            ends_at groups judge p ∙ sym (by_groups scores (λ u. cond (p u) 1 0)) ∙ sym (by_marks scores (λ u. cond (p u) 1 0))
            ∙ sum_by-same (λ r. cond (p (labelled_sum 1 scores r)) 1 0) (λ r. cond (p (measured test tail r)) 1 0) (λ r. ap (λ z. cond (p z) 1 0) (sym (measured-is test refl tail r))) (sign_lists (length scores))
            ∙ sym (sum_by-filter unit_weight (λ r. p (measured test tail r)) (sign_lists (length scores)));
      }

  pub can-be : CanBeAnswered (one_sample_test sample) (mark_network sample) (mark_network sample)
  can-be = can-be-answered (one_sample_test sample) centred (λ r. refl) refl (omega (arith, total-of sample, total-some (length (used_scores sample)))) (omega (arith, total-of sample, total)) follows (λ tail. inl refl)

pub refused : (sample : SignedSample) (e : PrepareFault) → 2 ^ length (used_scores sample) ≤ MAX → IsMadeOf sample (Err e) → Prepares one_sample_test sample (Err e)
refused sample (TooWide Total) fits is = absurd is
refused sample (TooWide Statistic) fits is = bound-wide (one_sample_test sample) (total-of sample) fits is
refused sample NoMemory fits is = tt

-- ---- what is made of differences

nonzero-small : (ds : List ℤ) → AllByRecursion (λ d. nat_abs d ≤ MAX) ds → AllByRecursion (λ d. nat_abs d ≤ MAX) (nonzero ds)
nonzero-small [] all = tt
nonzero-small (x ∷ ds) all = by (not (int_eq x (pos 0))) (nonzero-small ds all.1)
  where
    by : (b : Bool) → AllByRecursion (λ d. nat_abs d ≤ MAX) (nonzero ds) → AllByRecursion (λ d. nat_abs d ≤ MAX) (cond b (x ∷ nonzero ds) (nonzero ds))
    by true rest = (all.0, rest)
    by false rest = rest

pub used-small : (ds : List ℤ) → All (λ d. nat_abs d ≤ MAX) ds → All (λ d. nat_abs d ≤ MAX) (nonzero ds)
used-small ds all = All-from_recursion (λ d. nat_abs d ≤ MAX) (nonzero ds) (nonzero-small ds (recursion_from_All (λ d. nat_abs d ≤ MAX) ds all))

pub few-sizes : (ds : List ℤ) → length (magnitudes (nonzero ds)) ≤ length ds
few-sizes ds =
    omega (arith, length-map (nonzero ds) (λ d. pos (nat_abs d)), length-filter (λ d. not (int_eq d (pos 0))) ds, count_by-le-length (λ d. not (int_eq d (pos 0))) ds)

pub scored-some : (kind : SignKind) (ds scores : List ℤ) → scores ≡ sign_scores kind (magnitudes ds) → All (λ s. pos 0 ≤ℤ s) scores
scored-some kind ds scores e = rw e (All-from_recursion (λ s. pos 0 ≤ℤ s) (sign_scores kind (magnitudes ds)) (scores-some kind ds))

-- ---- ones

pub ones-are : (sizes : List ℤ) → replicate (length sizes) (pos 1) ≡ map (λ size. pos 1) sizes
ones-are [] = refl
ones-are (x ∷ sizes) = ap (λ ones. pos 1 ∷ ones) (ones-are sizes)

pub ones-sum : (sizes : List ℤ) → length sizes ≡ absolute_sum (map (λ size. pos 1) sizes)
ones-sum [] = refl
ones-sum (x ∷ sizes) = omega (arith, ones-sum sizes)

-- ---- discordant pairs

pluses-used : (a : ℕ) (rest : List ℤ) → length (nonzero (replicate a (pos 1) ++ rest)) ≡ a + length (nonzero rest)
pluses-used zero rest = omega arith
pluses-used (suc a) rest = omega (arith, pluses-used a rest)

minuses-used : (b : ℕ) → length (nonzero (replicate b (pos 0 -ℤ pos 1))) ≡ b
minuses-used zero = refl
minuses-used (suc b) = omega (arith, minuses-used b)

pub discordant-many : (table : TableData) → length (used_scores (discordant table)) ≡ slice_index table.cells 1 + slice_index table.cells 2
discordant-many table =
    let a : ℕ = slice_index table.cells 1 in
    let b : ℕ = slice_index table.cells 2 in
    used-many (discordant table) ∙ pluses-used a (replicate b (pos 0 -ℤ pos 1)) ∙ ap (λ n. a + n) (minuses-used b)

same-small : (n : ℕ) (d : ℤ) → nat_abs d ≤ MAX → AllByRecursion (λ d. nat_abs d ≤ MAX) (replicate n d)
same-small zero d h = tt
same-small (suc n) d h = (h, same-small n d h)

pub discordant-small : (a b : ℕ) → All (λ d. nat_abs d ≤ MAX) (replicate a (pos 1) ++ replicate b (pos 0 -ℤ pos 1))
discordant-small a b =
    All-from_recursion (λ d. nat_abs d ≤ MAX) (replicate a (pos 1) ++ replicate b (pos 0 -ℤ pos 1))
    (all_append (λ d. nat_abs d ≤ MAX) (replicate a (pos 1)) (replicate b (pos 0 -ℤ pos 1)) (same-small a (pos 1) (lit≤ tt)) (same-small b (pos 0 -ℤ pos 1) (lit≤ tt)))

pub few-marks : (n : ℕ) → 2 ^ n ≤ MAX → n ≤ 10000
few-marks n h = elim (cases_lt n 128) [
  | inl l ↦ omega (arith, l)
  | inr m ↦ (let more : 2 ^ 128 ≤ 2 ^ n = pow-le-pow_right (lit≤ tt) m in absurd (omega (arith, more, h)))
]

pub discordant-few : (a b : ℕ) → 2 ^ (a + b) ≤ MAX → length (replicate a (pos 1) ++ replicate b (pos 0 -ℤ pos 1)) ≤ 10000
discordant-few a b h = omega (arith, length-append (replicate a (pos 1)) (replicate b (pos 0 -ℤ pos 1)), length-replicate {A = ℤ} a (pos 1), length-replicate {A = ℤ} b (pos 0 -ℤ pos 1), few-marks (a + b) h)
