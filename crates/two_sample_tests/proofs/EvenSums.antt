-- The sum of the second sample's scores, where scores rise by one step, is that of the first scores
-- and a step for each pair that rises.
use Rattle.std.proofs.Common.{◌≡◌, ℕ, zero, suc, ◌+◌, ◌*◌, ◌<◌, List, [], ◌∷◌, length, cond, refl, sym, ◌∙◌, ap, arith, nat_eq, nat_lt}
use Rattle.std.specs.Prelude.{ℤ, pos, ◌+ℤ◌, ◌*ℤ◌, slice_index}
use Rattle.std.specs.List.{AllByRecursion, count_by}
use Rattle.std.proofs.lemmas.Bool.Decides.{nat_tests}
use Rattle.std.proofs.Math.IntN.{suc_ℤ, suc_ℤ-*ℤ, zero-*ℤ}
use Rattle.std.proofs.lemmas.Int.{ints}
use Rattle.std.proofs.lemmas.List.Sums.{sum_by-cons}
use Rattle.weights.specs.declared.tails.Tail.{Tail}
use Rattle.weights.specs.Conditional.{numerator}
use Rattle.weights.proofs.Chosen.{one_if}
use Rattle.weights.proofs.Counted.{count_of}
use Rattle.weights.proofs.Members.{IsLabelling}
use Rattle.scores.specs.Scores.{labelled_sum}
use Rattle.sample_reader.specs.Groups.{group_sizes}
use Rattle.networks.specs.declared.verdicts.Judge.{Judge}
use Rattle.networks.specs.Judged.{judge_of, rule_in}
use Rattle.networks.proofs.LastingVerdicts.{times-grown}
use Rattle.labelled.proofs.LabelLaws.{fit-by, numerator-by}
use Rattle.concordant_pairs.specs.ConcordantPairs.{concordant_pairs}
use Rattle.concordant_pairs.specs.ConcordantTails.{FitLabellings, even_value, passing_labellings}
use Rattle.two_sample_tests.specs.declared.even_scores.EvenScores.{EvenScores}
use Rattle.two_sample_tests.specs.EvenSteps.{AreEven, RiseBy, least_sum, pairs_of}
use Rattle.two_sample_tests.specs.SampleSteps.{AreFitting}
use Rattle.two_sample_tests.specs.TwoSamples.{TwoSamples, pooled_scores, two_sample_says, two_sample_test}
use Rattle.two_sample_tests.proofs.FittingTests.{is-within}

-- ---- labels 0 and 1

more-than_one : (xs : List ℕ) → AllByRecursion (λ y. y < 2) xs → count_by (λ y. nat_lt 1 y) xs ≡ 0
more-than_one [] all = refl
more-than_one (x ∷ xs) all = omega (arith, sum_by-cons (λ y. cond (nat_lt 1 y) 1 0) x xs, none x all.0, more-than_one xs all.1)
  where
    none : (y : ℕ) → y < 2 → one_if (nat_lt 1 y) ≡ 0
    none y h = grind (arith, nat_tests, h)

more-than_none : (xs : List ℕ) → AllByRecursion (λ y. y < 2) xs → count_by (λ y. nat_lt 0 y) xs ≡ count_of 1 xs
more-than_none [] all = refl
more-than_none (x ∷ xs) all = omega (arith, sum_by-cons (λ y. cond (nat_lt 0 y) 1 0) x xs, sum_by-cons (λ y. cond (nat_eq y 1) 1 0) x xs, same x all.0, more-than_none xs all.1)
  where
    same : (y : ℕ) → y < 2 → one_if (nat_lt 0 y) ≡ one_if (nat_eq y 1)
    same y h = grind (arith, nat_tests, h)

-- what a subject of the first sample adds, and one of the second
suc-times : (n : ℕ) (w : ℤ) → pos (suc n) *ℤ w ≡ (pos n *ℤ w) +ℤ w
suc-times n w = ap (λ y. y *ℤ w) (suc-out n) ∙ suc_ℤ-*ℤ (pos n) w
  where
    suc-out : (a : ℕ) → pos (suc a) ≡ suc_ℤ (pos a)
    suc-out a = omega (arith, ints)

first-adds : (n step r p : ℕ) (v : ℤ) → pos 0 +ℤ ((pos n *ℤ (v +ℤ pos step)) +ℤ pos (step * (r + p))) ≡ (pos n *ℤ v) +ℤ pos (step * ((n + r) + p))
first-adds n step r p v =
    let all : step * ((n + r) + p) ≡ n * step + step * (r + p) = grind arith in
    omega (arith, ints, times-grown n step v, all)

second-adds : (n step r p : ℕ) (v : ℤ) → v +ℤ ((pos n *ℤ (v +ℤ pos step)) +ℤ pos (step * (r + p))) ≡ (pos (suc n) *ℤ v) +ℤ pos (step * ((0 + r) + (p + n)))
second-adds n step r p v =
    let all : step * ((0 + r) + (p + n)) ≡ n * step + step * (r + p) = grind arith in
    omega (arith, ints, times-grown n step v, suc-times n v, all)

even-sum : (step : ℕ) (scores : List ℤ) (xs : List ℕ) (first : ℤ) → RiseBy first step scores → length xs ≡ length scores → AllByRecursion (λ y. y < 2) xs
    → labelled_sum 1 scores xs ≡ (pos (count_of 1 xs) *ℤ first) +ℤ pos (step * (concordant_pairs xs + pairs_of (count_of 1 xs)))
even-sum step [] [] first rise long all = nothing first step
  where
    nothing : (v : ℤ) (step : ℕ) → pos 0 ≡ (pos 0 *ℤ v) +ℤ pos (step * (0 + 0))
    nothing v step =
        let none : step * (0 + 0) ≡ 0 = grind arith in
        omega (arith, ints, zero-*ℤ v, none)
even-sum step [] (x ∷ xs) first rise long all = absurd (omega (arith, long))
even-sum step (s ∷ scores) [] first rise long all = absurd (omega (arith, long))
even-sum step (s ∷ scores) (x ∷ xs) first rise long all = by x all.0 (even-sum step scores xs (first +ℤ pos step) rise.1 (omega (arith, long)) all.1)
  where
    by : (x : ℕ) → x < 2 → labelled_sum 1 scores xs ≡ (pos (count_of 1 xs) *ℤ (first +ℤ pos step)) +ℤ pos (step * (concordant_pairs xs + pairs_of (count_of 1 xs)))
        → labelled_sum 1 (s ∷ scores) (x ∷ xs) ≡ (pos (count_of 1 (x ∷ xs)) *ℤ first) +ℤ pos (step * (concordant_pairs (x ∷ xs) + pairs_of (count_of 1 (x ∷ xs))))
    by zero h rest =
        let same : count_of 1 (0 ∷ xs) ≡ count_of 1 xs = sum_by-cons (λ y. cond (nat_eq y 1) 1 0) 0 xs ∙ none (count_of 1 xs) in
        ap (λ t. pos 0 +ℤ t) rest
        ∙ first-adds (count_of 1 xs) step (concordant_pairs xs) (pairs_of (count_of 1 xs)) first
        ∙ ap (λ n. (pos (count_of 1 xs) *ℤ first) +ℤ pos (step * ((n + concordant_pairs xs) + pairs_of (count_of 1 xs)))) (sym (more-than_none xs all.1))
        ∙ ap (λ n. (pos n *ℤ first) +ℤ pos (step * (concordant_pairs (0 ∷ xs) + pairs_of n))) (sym same)
      where
        none : (n : ℕ) → 0 + n ≡ n
        none n = omega arith
    by (suc zero) h rest =
        let one : count_of 1 (1 ∷ xs) ≡ suc (count_of 1 xs) = sum_by-cons (λ y. cond (nat_eq y 1) 1 0) 1 xs ∙ more (count_of 1 xs) in
        ap (λ t. s +ℤ t) rest
        ∙ ap (λ v. v +ℤ ((pos (count_of 1 xs) *ℤ (first +ℤ pos step)) +ℤ pos (step * (concordant_pairs xs + pairs_of (count_of 1 xs))))) rise.0
        ∙ second-adds (count_of 1 xs) step (concordant_pairs xs) (pairs_of (count_of 1 xs)) first
        ∙ ap (λ n. (pos (suc (count_of 1 xs)) *ℤ first) +ℤ pos (step * ((n + concordant_pairs xs) + (pairs_of (count_of 1 xs) + count_of 1 xs)))) (sym (more-than_one xs all.1))
        ∙ ap (λ n. (pos n *ℤ first) +ℤ pos (step * (concordant_pairs (1 ∷ xs) + pairs_of n))) (sym one)
      where
        more : (n : ℕ) → 1 + n ≡ suc n
        more n = omega arith
    by (suc (suc x)) h rest = absurd (omega (arith, h))

-- ---- the test

parted : (v : ℤ) (n step r p : ℕ) → (pos n *ℤ v) +ℤ pos (step * (r + p)) ≡ ((pos n *ℤ v) +ℤ pos (step * p)) +ℤ pos (step * r)
parted v n step r p =
    let all : step * (r + p) ≡ step * p + step * r = grind arith in
    omega (arith, ints, all)

module _ (samples : TwoSamples) (f : AreFitting samples) (even : EvenScores) (are : AreEven even (pooled_scores samples)) where
  abbrev sizes : List ℕ
  sizes = group_sizes samples.groups

  abbrev base : ℤ
  base = least_sum even (slice_index sizes 1)

  sum-rises : (xs : List ℕ) → IsLabelling sizes xs → labelled_sum 1 (pooled_scores samples) xs ≡ even_value base even.step (concordant_pairs xs)
  sum-rises xs l =
      let two : length sizes ≡ 2 = ap length f.sizes_are in
      let second : count_of 1 xs ≡ slice_index sizes 1 = ap (λ counts. slice_index counts 1) (rw two at l.counted) in
      even-sum even.step (pooled_scores samples) xs even.first are.rise (l.over.long ∙ f.labels.are.whole) (rw two at l.over.below)
      ∙ ap (λ n. (pos n *ℤ even.first) +ℤ pos (even.step * (concordant_pairs xs + pairs_of n))) second
      ∙ parted even.first (slice_index sizes 1) even.step (concordant_pairs xs) (pairs_of (slice_index sizes 1))

  pub numerator-rises : (tail : Tail) → numerator (two_sample_test samples) tail ≡ passing_labellings (rule_in (judge_of (two_sample_test samples)) tail) base even.step sizes
  numerator-rises = numerator-by (two_sample_says samples) (λ xs. even_value base even.step (concordant_pairs xs)) sum-rises

  pub fit-concordant : (judge : Judge) → judge ≡ judge_of (two_sample_test samples) → FitLabellings judge base even.step sizes
  fit-concordant judge e = fit-by (two_sample_says samples) (λ xs. even_value base even.step (concordant_pairs xs)) sum-rises judge e (is-within samples f)
