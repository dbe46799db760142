-- The law of the distribution: the weight of its lines whose values pass is that of the
-- rearrangements whose statistics do.
use Rattle.std.proofs.Common.{◌≡◌, ℕ, ◌+◌, ◌≤◌, List, [], ◌∷◌, map, filter, Bool, true, false, cond, refl, sym, ◌∙◌, ap, arith}
use Rattle.std.specs.Prelude.{ℤ, int_le, nat_le}
use Rattle.std.specs.List.{sum_by, AllByRecursion}
use Rattle.std.specs.Ordering.{int_eq}
use Rattle.weights.specs.declared.lines.Line.{Line}
use Rattle.weights.specs.declared.rules.Rule.{Rule}
use Rattle.weights.specs.declared.tails.Tail.{Tail}
use Rattle.weights.specs.declared.tails.Tail.TheVariants.{Less, Greater, Two}
use Rattle.weights.specs.Conditional.{ConditionalTest, TwoSided, by_distance, ascending_values, distance, distribution, is_extreme, is_extreme_on_both, numerator, observed_statistic, value_weight}
use Rattle.weights.specs.Rules.{passes, rule_of}
use Rattle.weights.proofs.ByRule.{is_extreme-by_rule}
use Rattle.weights.proofs.Filters.{filter-same}
use Rattle.weights.proofs.Sums.{sum_by-same, sum_by-map, sum_by-plus}
use Rattle.networks.specs.Lines.{line_sum}
use Rattle.networks.specs.Follows.{statistic_sums}
use Rattle.stage_network.proofs.DistributionLines.{distribution-is}
use Rattle.distribution.specs.ByStatistic.{GoesByStatistic}

-- the same test with other weights
weighted_by : ConditionalTest → (List ℕ → ℕ) → ConditionalTest
weighted_by test weight = record test { weight = weight }

module _ (test : ConditionalTest) (p : ℤ → Bool) where
  one_more : List ℕ → ℕ
  one_more r = test.weight r + 1

  one : List ℕ → ℕ
  one r = 1

  lines_of : (List ℕ → ℕ) → List Line
  lines_of weight = distribution (weighted_by test weight)

  passing_in : (List ℕ → ℕ) → ℤ → ℕ
  passing_in weight v = cond (p v) (sum_by weight (filter (λ r. int_eq (test.statistic r) v) test.reference)) 0

  sums_of : (List ℕ → ℕ) → ℕ
  sums_of weight = statistic_sums (weighted_by test weight) p

  all-weighty : (weight : List ℕ → ℕ) → ((r : List ℕ) → 1 ≤ weight r) → (rs : List (List ℕ)) → AllByRecursion (λ r. 1 ≤ weight r) rs
  all-weighty weight h [] = tt
  all-weighty weight h (r ∷ rs) = (h r, all-weighty weight h rs)

  -- the values of the lines
  values : List ℤ
  values = ascending_values (map test.statistic test.reference)

  -- where all weights are positive
  weighty-sum : (weight : List ℕ → ℕ) → ((r : List ℕ) → 1 ≤ weight r) → line_sum p (lines_of weight) ≡ sums_of weight
  unfolding weighted_by lines_of sums_of
  weighty-sum weight h = (distribution-is (weighted_by test weight) (all-weighty weight h test.reference)).told p

  by-values : (weight : List ℕ → ℕ) → line_sum p (lines_of weight) ≡ sum_by (passing_in weight) values
  unfolding weighted_by lines_of passing_in values
  by-values weight = sum_by-map (λ (l : Line). cond (p l.value) l.weight 0) (value_weight (weighted_by test weight)) (ascending_values (map test.statistic test.reference))

  passing-more : (v : ℤ) → passing_in one_more v ≡ passing_in test.weight v + passing_in one v
  unfolding passing_in one_more one
  passing-more v = by (p v)
    where
      with_value : List (List ℕ)
      with_value = filter (λ r. int_eq (test.statistic r) v) test.reference

      by : (b : Bool) → cond b (sum_by one_more with_value) 0 ≡ cond b (sum_by test.weight with_value) 0 + cond b (sum_by one with_value) 0
      by true = sum_by-plus test.weight one with_value
      by false = refl

  lines-more : line_sum p (lines_of one_more) ≡ line_sum p (lines_of test.weight) + line_sum p (lines_of one)
  lines-more =
      let split : sum_by (passing_in one_more) values ≡ sum_by (passing_in test.weight) values + sum_by (passing_in one) values = sum_by-same (passing_in one_more) (λ v. passing_in test.weight v + passing_in one v) passing-more values ∙ sum_by-plus (passing_in test.weight) (passing_in one) values in
      omega (arith, by-values one_more, by-values test.weight, by-values one, split)

  sums-more : sums_of one_more ≡ sums_of test.weight + sums_of one
  unfolding sums_of weighted_by one_more one
  sums-more = sum_by-plus test.weight one (filter (λ r. p (test.statistic r)) test.reference)

  -- It holds where all weights are positive: so of the weights that are each one more, and of the
  -- weights 1. What the weights themselves sum to is the difference.
  pub distribution-sum : line_sum p (distribution test) ≡ statistic_sums test p
  unfolding sums_of weighted_by lines_of one_more one
  distribution-sum = omega (arith, lines-more, sums-more, weighty-sum one_more (λ r. omega arith), weighty-sum one (λ r. omega arith))

-- each tail at the observed statistic

pub less-law : (test : ConditionalTest) (lines : List Line) (t : ℤ) → lines ≡ distribution test → t ≡ observed_statistic test → line_sum (λ v. int_le v t) lines ≡ numerator test Less
less-law test lines t e o = rw (e, o) (distribution-sum test (λ v. int_le v (observed_statistic test)))

pub greater-law : (test : ConditionalTest) (lines : List Line) (t : ℤ) → lines ≡ distribution test → t ≡ observed_statistic test → line_sum (λ v. int_le t v) lines ≡ numerator test Greater
greater-law test lines t e o = rw (e, o) (distribution-sum test (λ v. int_le (observed_statistic test) v))

pub two-law : (test : ConditionalTest) (lines : List Line) (q : ℕ) (c : ℤ) (d : ℕ) → lines ≡ distribution test → test.two_sided ≡ by_distance q c → d ≡ distance q c (observed_statistic test) → line_sum (λ v. nat_le d (distance q c v)) lines ≡ numerator test Two
two-law test lines q c d e two o =
    let by : TwoSided → ℕ = λ sides. sum_by test.weight (filter (is_extreme_on_both sides test) test.reference) in
    rw (e, o) (distribution-sum test (λ v. nat_le (distance q c (observed_statistic test)) (distance q c v)) ∙ ap by (sym two))

-- a tail that goes by the statistic, by its rule
pub tail-law : (test : ConditionalTest) (tail : Tail) (rule : Rule) (lines : List Line) → GoesByStatistic test tail → rule ≡ rule_of test tail → lines ≡ distribution test → line_sum (passes rule) lines ≡ numerator test tail
tail-law test tail rule lines goes is e =
    let by_rule : (r : List ℕ) → passes (rule_of test tail) (test.statistic r) ≡ is_extreme test tail r = λ r. ap (passes (rule_of test tail)) (sym (goes r)) ∙ sym (is_extreme-by_rule test tail r) in
    rw (is, e) (distribution-sum test (passes (rule_of test tail)) ∙ ap (sum_by test.weight) (filter-same (λ r. passes (rule_of test tail) (test.statistic r)) (is_extreme test tail) by_rule test.reference))
