-- Where no two first values are equal, K is twice the number of concordant pairs less that of all pairs with different second values.
use Rattle.std.proofs.Common.{◌≡◌, ℕ, ◌+◌, ◌<◌, ◌≤◌, List, [], ◌∷◌, length, true, refl, sym, ◌∙◌, ap, arith, nat_lt}
use Rattle.std.specs.Prelude.{ℤ, pos, ◌-ℤ◌}
use Rattle.std.specs.List.{AllByRecursion, count_by, sum, sum_by}
use Rattle.std.proofs.lemmas.Bool.{le-ltb}
use Rattle.std.proofs.lemmas.Int.{ints}
use Rattle.std.proofs.lemmas.List.Sums.{sum_by-cons}
use Rattle.weights.specs.declared.tails.Tail.{Tail}
use Rattle.weights.specs.declared.TheConstants.{MAX}
use Rattle.weights.specs.Conditional.{numerator}
use Rattle.weights.specs.Labellings.{counts_of, number_of_labellings}
use Rattle.weights.proofs.Members.{IsLabelling}
use Rattle.weights.proofs.Sums.{sum_by-plus, sum_by-same}
use Rattle.midranks.specs.Ties.{IsAscending, tie_groups}
use Rattle.midranks.specs.declared.ties.Tie.{Tie}
use Rattle.midranks.proofs.TieLemmas.{groups-ascend}
use Rattle.sample_reader.specs.Twins.{TwinData}
use Rattle.sample_reader.specs.PooledSample.{values_of}
use Rattle.networks.specs.Judged.{judge_of, rule_in}
use Rattle.networks.specs.declared.verdicts.Judge.{Judge}
use Rattle.labelled.proofs.LabelLaws.{fit-by, numerator-by}
use Rattle.pooled_columns.specs.PooledColumns.{column_sizes}
use Rattle.concordant_pairs.specs.ConcordantPairs.{are_distinct, pairs_across, concordant_pairs}
use Rattle.concordant_pairs.specs.ConcordantTails.{FitLabellings, even_value, passing_labellings}
use Rattle.concordant_pairs.proofs.OneEach.{first-one}
use Rattle.kendall_test.specs.Kendall.{kendall_says, kendall_statistic, kendall_subjects, kendall_test, one_where_greater, one_where_less}
use Rattle.kendall_test.proofs.CodeLaws.{sum-first}
use Rattle.kendall_test.proofs.CountedPairs.{concordant-are, crossed}
use Rattle.kendall_test.proofs.KendallFitting.{rows-sum, same-firsts, within}
use Rattle.kendall_test.proofs.KendallNarrows.{concordant-among}
use Rattle.kendall_test.proofs.KendallValues.{by_stages, counts_in, pairs-are, values_of_ties}
use Rattle.pooled_columns.proofs.TieColumns.{columns-sum}

-- what each member of a list adds with the later ones
abbrev pub with_later : (ℕ → ℕ → ℕ) → List ℕ → ℕ
with_later f [] = 0
with_later f (x ∷ xs) = sum_by (λ y. f x y) xs + with_later f xs

concordant-later : (xs : List ℕ) → with_later one_where_less xs ≡ concordant_pairs xs
concordant-later [] = refl
concordant-later (x ∷ xs) = ap (λ n. count_by (λ y. nat_lt x y) xs + n) (concordant-later xs)

-- where each stage has one subject
one-stage : (f : ℕ → ℕ → ℕ) (c : ℕ) (cs : List ℕ) (x : ℕ) (xs : List ℕ) → c ≡ 1 → by_stages f cs xs ≡ with_later f xs → by_stages f (c ∷ cs) (x ∷ xs) ≡ with_later f (x ∷ xs)
one-stage f c cs x xs e same =
    let alone : crossed f (x ∷ []) xs ≡ sum_by (λ y. f x y) xs = omega arith in
    rw e (omega (arith, alone, same))

stages-later : (f : ℕ → ℕ → ℕ) (cs xs : List ℕ) → are_distinct cs ≡ true → length xs ≡ sum cs → by_stages f cs xs ≡ with_later f xs
stages-later f [] [] one long = refl
stages-later f [] (x ∷ xs) one long = absurd (omega (arith, long))
stages-later f (c ∷ cs) [] one long = absurd (omega (arith, long, sum-first c cs, (first-one c cs one).0))
stages-later f (c ∷ cs) (x ∷ xs) one long =
    let each = first-one c cs one in
    let rest : length xs ≡ sum cs = omega (arith, long, sum-first c cs, each.0) in
    one-stage f c cs x xs each.0 (stages-later f cs xs each.1 rest)

-- all pairs of members, of which no one is less than itself
both-ways : (xs : List ℕ) → crossed one_where_less xs xs ≡ with_later one_where_less xs + with_later one_where_greater xs
both-ways [] = refl
both-ways (x ∷ xs) =
    let inner : sum_by (λ a. sum_by (λ b. one_where_less a b) (x ∷ xs)) xs ≡ sum_by (λ a. one_where_greater x a) xs + crossed one_where_less xs xs =
    sum_by-same (λ a. sum_by (λ b. one_where_less a b) (x ∷ xs)) (λ a. one_where_less a x + sum_by (λ b. one_where_less a b) xs) (λ a. sum_by-cons (λ b. one_where_less a b) x xs) xs
    ∙ sum_by-plus (λ a. one_where_less a x) (λ a. sum_by (λ b. one_where_less a b) xs) xs in
    let own : one_where_less x x ≡ 0 = rw (le-ltb x x (omega arith)) refl in
    omega (
      arith,
      sum_by-cons (λ a. sum_by (λ b. one_where_less a b) (x ∷ xs)) x xs,
      sum_by-cons (λ b. one_where_less x b) x xs,
      own,
      inner,
      both-ways xs,
    )

-- as many as there are pairs with different labels
all-pairs-are : (k : ℕ) (xs : List ℕ) → AllByRecursion (λ x. x < k) xs → pairs_across (counts_of k xs) ≡ with_later one_where_less xs + with_later one_where_greater xs
all-pairs-are k xs a = sym (concordant-among (counts_of k xs)) ∙ concordant-are k xs xs a a ∙ both-ways xs

pub order-rises : (rows : List ℕ) (ts : List Tie) (xs : List ℕ) → IsAscending ts → are_distinct (counts_in ts) ≡ true → length xs ≡ sum (counts_in ts) → IsLabelling rows xs
    → kendall_statistic (values_of_ties ts) xs ≡ even_value (pos 0 -ℤ pos (pairs_across rows)) 2 (concordant_pairs xs)
order-rises rows ts xs up one long l =
    let up-pairs = pairs-are one_where_less ts xs up long ∙ stages-later one_where_less (counts_in ts) xs one long in
    let down-pairs = pairs-are one_where_greater ts xs up long ∙ stages-later one_where_greater (counts_in ts) xs one long in
    let all = ap pairs_across (sym l.counted) ∙ all-pairs-are (length rows) xs l.over.below in
    omega (arith, ints, up-pairs, down-pairs, all, concordant-later xs)

module _ (sample : TwinData) (long : length sample.second ≡ length sample.first) (few : length sample.first ≤ 120) (fits : number_of_labellings (column_sizes sample.second) ≤ MAX) where
  abbrev firsts : List ℤ
  firsts = values_of (kendall_subjects sample)

  abbrev rows : List ℕ
  rows = column_sizes sample.second

  abbrev base : ℤ
  base = pos 0 -ℤ pos (pairs_across rows)

  module _ (distinct : are_distinct (column_sizes firsts) ≡ true) where
    statistic-rises : (xs : List ℕ) → IsLabelling rows xs → kendall_statistic firsts xs ≡ even_value base 2 (concordant_pairs xs)
    statistic-rises xs l =
        ap (λ vs. kendall_statistic vs xs) (sym (same-firsts sample long few fits))
        ∙ order-rises rows (tie_groups firsts) xs (groups-ascend firsts) distinct (l.over.long ∙ rows-sum sample long few ∙ sym (columns-sum firsts)) l

    pub numerator-rises : (tail : Tail) → numerator (kendall_test sample) tail ≡ passing_labellings (rule_in (judge_of (kendall_test sample)) tail) base 2 rows
    numerator-rises = numerator-by (kendall_says sample) (λ xs. even_value base 2 (concordant_pairs xs)) statistic-rises

    pub fit-concordant : (judge : Judge) → judge ≡ judge_of (kendall_test sample) → FitLabellings judge base 2 rows
    fit-concordant judge e = fit-by (kendall_says sample) (λ xs. even_value base 2 (concordant_pairs xs)) statistic-rises judge e (within sample long few fits)
