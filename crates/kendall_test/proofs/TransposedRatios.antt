-- What is counted in Kendall's test is what is counted in the test transposed, in the ratio of the totals.
use Rattle.std.proofs.Common.{◌≡◌, ℕ, zero, suc, ◌*◌, ◌/◌, ◌%◌, ◌<◌, ◌≤◌, List, [], ◌∷◌, length, map, Bool, true, false, cond, refl, sym, ◌∙◌, ap, arith, mul_comm}
use Rattle.std.specs.Prelude.{ℤ, pos, ◌<ℤ◌}
use Rattle.std.specs.List.{AllByRecursion, sum_by}
use Rattle.std.specs.Ordering.{int_eq}
use Rattle.std.proofs.Math.Nat.{mul-le-mul_right}
use Rattle.weights.specs.declared.lines.Line.{Line}
use Rattle.weights.specs.declared.rules.Rule.TheVariants.{AtLeast, AtMost, Far}
use Rattle.weights.specs.declared.tails.Tail.{Tail}
use Rattle.weights.specs.Conditional.{ascending_values, distance, distribution, numerator, total, unit_weight, value_weight}
use Rattle.weights.specs.Labellings.{labellings, number_of_labellings}
use Rattle.weights.specs.Rules.{measured, passes, rule_of}
use Rattle.weights.proofs.Centred.{all-weigh, measured-is}
use Rattle.weights.proofs.Filters.{all_map, filter-same}
use Rattle.weights.proofs.Sums.{sum_by-filter-≤, sum_by-map, sum_by-same_where, sum_by-times}
use Rattle.networks.specs.Follows.{statistic_sums}
use Rattle.networks.specs.Judged.{judge_of, rule_in}
use Rattle.networks.specs.Lines.{IsAscending, line_sum}
use Rattle.networks.specs.declared.verdicts.Judge.{Judge}
use Rattle.stage_network.proofs.DistributionLines.{distribution-is, spread-is}
use Rattle.networks.proofs.Following.{numerator-by_rule, rule-of}
use Rattle.labelled.proofs.LabelLaws.{total-some}
use Rattle.sample_reader.specs.Twins.{TwinData}
use Rattle.pooled_columns.specs.PooledColumns.{column_sizes}
use Rattle.transposed_tables.proofs.Reduced.{no-rest, quotient}
use Rattle.transposed_tables.proofs.Weighed.{cancel}
use Rattle.kendall_test.specs.Kendall.{kendall_says, kendall_test}
use Rattle.kendall_test.specs.declared.kendall_made.KendallMade.{KendallMade}
use Rattle.kendall_test.specs.KendallMade.{AreMade}
use Rattle.kendall_test.specs.TransposedKendall.{AreInRatio, transposed_twins, weighed_line}
use Rattle.kendall_test.proofs.TransposedObserved.{observed-transposed}
use Rattle.kendall_test.proofs.TransposedSums.{sums-transposed, total-is}

-- ---- the rules, and the numerators

abbrev judge_by : ℤ → Judge
judge_by z = record { less = AtMost z; greater = AtLeast z; two = Far 1 (pos 0) (distance 1 (pos 0) z) }

pub judge-transposed : (t : TwinData) → judge_of (kendall_test t) ≡ judge_of (kendall_test (transposed_twins t))
judge-transposed t = ap judge_by (observed-transposed t)

rule-transposed : (t : TwinData) (tail : Tail) → rule_of (kendall_test t) tail ≡ rule_of (kendall_test (transposed_twins t)) tail
rule-transposed t tail = sym (rule-of (kendall_test t) tail) ∙ ap (λ judge. rule_in judge tail) (judge-transposed t) ∙ rule-of (kendall_test (transposed_twins t)) tail

numerator-sums : (t : TwinData) (tail : Tail) → numerator (kendall_test t) tail ≡ statistic_sums (kendall_test t) (passes (rule_of (kendall_test t) tail))
numerator-sums t tail =
    numerator-by_rule (kendall_test t) tail
    ∙ ap (sum_by unit_weight) (filter-same (λ r. passes (rule_of (kendall_test t) tail) (measured (kendall_test t) tail r)) (λ r. passes (rule_of (kendall_test t) tail) ((kendall_says t).statistic r)) (λ r. ap (passes (rule_of (kendall_test t) tail)) (measured-is (kendall_test t) refl tail r)) (labellings (column_sizes t.second)))

pub numerators-transposed : (t : TwinData) → length t.second ≡ length t.first → (tail : Tail) → numerator (kendall_test t) tail * total (kendall_test (transposed_twins t)) ≡ numerator (kendall_test (transposed_twins t)) tail * total (kendall_test t)
numerators-transposed t long tail =
    ap (λ n. n * total (kendall_test (transposed_twins t))) (numerator-sums t tail)
    ∙ sums-transposed t long (passes (rule_of (kendall_test t) tail))
    ∙ ap (λ rule. statistic_sums (kendall_test (transposed_twins t)) (passes rule) * total (kendall_test t)) (rule-transposed t tail)
    ∙ sym (ap (λ n. n * total (kendall_test t)) (numerator-sums (transposed_twins t) tail))

numerator-within : (t : TwinData) (tail : Tail) → numerator (kendall_test t) tail ≤ total (kendall_test t)
numerator-within t tail = omega (arith, numerator-sums t tail, sum_by-filter-≤ unit_weight (λ r. passes (rule_of (kendall_test t) tail) ((kendall_says t).statistic r)) (labellings (column_sizes t.second)))

-- a part of a total that in the ratio of another is a whole number, and the numerator
pub record Gives (t : TwinData) (tail : Tail) (part of all : ℕ) : Type 0 where
  pub some : 0 < of
  pub within : part ≤ of
  pub whole : (all * part) % of ≡ 0
  pub law : (found : ℕ) → found * of ≡ part * all → found ≡ numerator (kendall_test t) tail

pub gives : (t u : TwinData) (here there : KendallMade) (tail : Tail) (part : ℕ) → u ≡ transposed_twins t → AreMade t here → AreMade u there → part ≡ numerator (kendall_test u) tail → Gives t tail part there.total here.total
gives t u here there tail part e a b p =
    let v : TwinData = transposed_twins t in
    let all : here.total ≡ total (kendall_test t) = a.total ∙ sym (total-is t) in
    let of : there.total ≡ total (kendall_test v) = b.total ∙ ap (λ x. number_of_labellings (column_sizes x.second)) e ∙ sym (total-is v) in
    let there_part : part ≡ numerator (kendall_test v) tail = p ∙ ap (λ x. numerator (kendall_test x) tail) e in
    let some : 0 < there.total = omega (arith, of, total-some (kendall_says v)) in
    let ratio : numerator (kendall_test t) tail * there.total ≡ part * here.total =
    ap (λ n. numerator (kendall_test t) tail * n) of ∙ numerators-transposed t a.long tail ∙ sym (ap (λ n. n * here.total) there_part ∙ ap (λ n. numerator (kendall_test v) tail * n) all) in
    record {
      some = some;
      within = omega (arith, there_part, of, numerator-within v tail);
      whole = no-rest (numerator (kendall_test t) tail) there.total (here.total * part) some (ratio ∙ mul_comm part here.total);
      law = λ n f. cancel n (numerator (kendall_test t) tail) there.total some (f ∙ sym ratio);
    }

-- ---- the distribution

module _ (all of : ℕ) (some : 0 < of) where
  -- a weight whose part of the other total is a whole number, and of which something is left
  record IsRatio (l : Line) : Type 0 where
    pub count : ℕ
    pub ratio : count * of ≡ l.weight * all

  ratio-is : (l : Line) → IsRatio l → (l.weight * all / of) * of ≡ l.weight * all
  ratio-is l i = ap (λ n. n * of) (quotient i.count of (l.weight * all) some i.ratio) ∙ i.ratio

  weighed-ascending : (lines : List Line) → IsAscending lines → IsAscending (map (weighed_line all of) lines)
  weighed-ascending [] a = tt
  weighed-ascending (l ∷ lines) a = (all_map (λ (m : Line). l.value <ℤ m.value) (weighed_line all of) lines a.0, weighed-ascending lines a.1)

  weighed-positive : 0 < all → (lines : List Line) → AllByRecursion IsRatio lines → AllByRecursion (λ l. 1 ≤ l.weight) lines → AllByRecursion (λ l. 1 ≤ l.weight) (map (weighed_line all of) lines)
  weighed-positive other [] a h = tt
  weighed-positive other (l ∷ lines) a h = (least (l.weight * all / of) l.weight (ratio-is l a.0) h.0, weighed-positive other lines a.1 h.1)
    where
      least : (n w : ℕ) → n * of ≡ w * all → 1 ≤ w → 1 ≤ n
      least n w e h = by n (omega (arith, e, other, mul-le-mul_right all h))
        where
          by : (n : ℕ) → 0 < n * of → 1 ≤ n
          by zero l = absurd (omega (arith, l))
          by (suc n) l = omega arith

  weighed-told : (p : ℤ → Bool) (lines : List Line) → AllByRecursion IsRatio lines → line_sum p (map (weighed_line all of) lines) * of ≡ line_sum p lines * all
  weighed-told p lines a =
      ap (λ n. n * of) (sum_by-map (λ (l : Line). cond (p l.value) l.weight 0) (weighed_line all of) lines)
      ∙ sym (sum_by-times of (λ (l : Line). cond (p l.value) (l.weight * all / of) 0) lines)
      ∙ sum_by-same_where IsRatio (λ (l : Line). cond (p l.value) (l.weight * all / of) 0 * of) (λ (l : Line). cond (p l.value) l.weight 0 * all) (λ l i. both (p l.value) (l.weight * all / of) l.weight (ratio-is l i)) lines a
      ∙ sum_by-times all (λ (l : Line). cond (p l.value) l.weight 0) lines
    where
      both : (b : Bool) (n w : ℕ) → n * of ≡ w * all → cond b n 0 * of ≡ cond b w 0 * all
      both true n w e = e
      both false n w e = omega arith

module _ (t : TwinData) (long : length t.second ≡ length t.first) where
  abbrev u : TwinData
  u = transposed_twins t

  abbrev all : ℕ
  all = total (kendall_test t)

  abbrev of : ℕ
  of = total (kendall_test u)

  some : 0 < of
  some = omega (arith, total-some (kendall_says u))

  other : 0 < all
  other = omega (arith, total-some (kendall_says t))

  -- each line weighs in the ratio what its value does in the other test
  each-ratio : (vs : List ℤ) → AllByRecursion (λ v. IsRatio all of some (value_weight (kendall_test u) v)) vs
  each-ratio [] = tt
  each-ratio (v ∷ vs) = (record { count = statistic_sums (kendall_test t) (λ z. int_eq z v); ratio = sums-transposed t long (λ z. int_eq z v) }, each-ratio vs)

  lines-ratio : AllByRecursion (IsRatio all of some) (distribution (kendall_test u))
  lines-ratio =
      let values : List ℤ = ascending_values (map (kendall_says u).statistic (labellings (column_sizes u.second))) in
      all_map (IsRatio all of some) (value_weight (kendall_test u)) values (each-ratio values)

  told : (p : ℤ → Bool) → line_sum p (map (weighed_line all of) (distribution (kendall_test u))) ≡ statistic_sums (kendall_test t) p
  told p =
      let d = distribution-is (kendall_test u) (all-weigh (labellings (column_sizes u.second))) in
      cancel (line_sum p (map (weighed_line all of) (distribution (kendall_test u)))) (statistic_sums (kendall_test t) p) of some
      (weighed-told all of some p (distribution (kendall_test u)) lines-ratio ∙ ap (λ n. n * all) (d.told p) ∙ sym (sums-transposed t long p))

  spread-transposed : distribution (kendall_test t) ≡ map (weighed_line all of) (distribution (kendall_test u))
  spread-transposed =
      let d = distribution-is (kendall_test u) (all-weigh (labellings (column_sizes u.second))) in
      sym (spread-is (kendall_test t) (map (weighed_line all of) (distribution (kendall_test u))) (all-weigh (labellings (column_sizes t.second))) (record {
        ascending = weighed-ascending all of some (distribution (kendall_test u)) d.ascending;
        positive = weighed-positive all of some other (distribution (kendall_test u)) lines-ratio d.positive;
        told = told;
      }))

pub are-in-ratio : (t : TwinData) → length t.second ≡ length t.first → AreInRatio t (transposed_twins t)
are-in-ratio t long = record { observed = observed-transposed t; numerators = numerators-transposed t long; distributions = spread-transposed t long }
