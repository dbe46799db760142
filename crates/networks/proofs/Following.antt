-- The extreme weight of a network that follows a test is the test's numerator.
use Rattle.std.proofs.Common.{◌≡◌, ℕ, List, cond, filter, refl, sym, ◌∙◌, ap, subst}
use Rattle.std.specs.Prelude.{ℤ}
use Rattle.std.specs.List.{count_by, sum_by}
use Rattle.weights.specs.declared.tails.Tail.{Tail}
use Rattle.weights.specs.declared.tails.Tail.TheVariants.{Less, Greater, Two}
use Rattle.weights.specs.Conditional.{ConditionalTest, by_distance, numerator, is_extreme, total, unit_weight}
use Rattle.weights.specs.Rules.{RuleFits, passes, measured, rule_of}
use Rattle.weights.proofs.ByRule.{is_extreme-by_rule}
use Rattle.weights.proofs.Centred.{measured-is}
use Rattle.weights.proofs.Chosen.{one_if}
use Rattle.weights.proofs.Filters.{filter-same}
use Rattle.weights.proofs.Sums.{sum_by-filter, sum_by-same}
use Rattle.networks.specs.declared.tail_sums.TailSum.{TailSum}
use Rattle.networks.specs.declared.verdicts.Judge.{Judge}
use Rattle.networks.specs.Network.{Network}
use Rattle.networks.specs.Completions.{completions, ending_weight, extreme_weight, path_weight, total_weight, value_weights}
use Rattle.networks.specs.Lines.{every}
use Rattle.networks.specs.Follows.{Follows}
use Rattle.networks.specs.Judged.{JudgeFits, judge_of, rule_in}
use Rattle.networks.proofs.Judging.{extreme-passes}
use Rattle.networks.proofs.Flat.{filter-every}

pub numerator-by_rule : (test : ConditionalTest) (tail : Tail) → numerator test tail ≡ sum_by test.weight (filter (λ r. passes (rule_of test tail) (measured test tail r)) test.reference)
numerator-by_rule test tail = ap (sum_by test.weight) (filter-same (is_extreme test tail) (λ r. passes (rule_of test tail) (measured test tail r)) (is_extreme-by_rule test tail) test.reference)

-- a test's rules
pub rule-of : (test : ConditionalTest) (tail : Tail) → rule_in (judge_of test) tail ≡ rule_of test tail
rule-of test Less = refl
rule-of test Greater = refl
rule-of test Two = refl

-- they fit a value where each of them does
pub judge-fits : (test : ConditionalTest) (judge : Judge) → judge ≡ judge_of test → (v : ℤ) → ((tail : Tail) → RuleFits (rule_of test tail) v) → JudgeFits judge v
judge-fits test judge e v fits = subst (λ j. JudgeFits j v) (sym e) (record { fits = λ tail. subst (λ rule. RuleFits rule v) (sym (rule-of test tail)) (fits tail) })

pub extreme-is : (test : ConditionalTest) (tail : Tail) (n : Network) → Follows test tail n → extreme_weight n tail 0 n.first ≡ numerator test tail
extreme-is test tail n f =
    extreme-passes n (judge_of test) f.intervals tail ∙ ap (λ rule. value_weights n (passes rule)) (rule-of test tail)
    ∙ f.ends (passes (rule_of test tail)) ∙ sym (numerator-by_rule test tail)

-- where all rearrangements weigh 1, it counts those whose statistic passes the tail's rule
pub numerator-counted : {q : ℕ} {c : ℤ} (test : ConditionalTest) → test.weight ≡ unit_weight → test.two_sided ≡ by_distance q c → (tail : Tail) → numerator test tail ≡ count_by (λ xs. passes (rule_in (judge_of test) tail) (test.statistic xs)) test.reference
numerator-counted test weighs by tail =
    ap (λ w. sum_by w (filter (is_extreme test tail) test.reference)) weighs ∙ sum_by-filter unit_weight (is_extreme test tail) test.reference
    ∙ sum_by-same (λ xs. cond (is_extreme test tail xs) 1 0) (λ xs. cond (passes (rule_in (judge_of test) tail) (test.statistic xs)) 1 0) each test.reference
  where
    each : (xs : List ℕ) → one_if (is_extreme test tail xs) ≡ one_if (passes (rule_in (judge_of test) tail) (test.statistic xs))
    each xs = ap one_if (is_extreme-by_rule test tail xs ∙ ap (passes (rule_of test tail)) (measured-is test by tail xs) ∙ ap (λ rule. passes rule (test.statistic xs)) (sym (rule-of test tail)))

-- what is found of a tail
pub tail_sum_is : (x : TailSum) (a b : ℕ) → x.sum ≡ a → x.opened ≡ b → x ≡ record { sum = a; opened = b }
tail_sum_is x a b e f = rw (← e, ← f) refl

-- the completions of the first key weigh as much as all rearrangements: each passes the test that is always true
pub whole-is : (test : ConditionalTest) (tail : Tail) (n : Network) → Follows test tail n → total_weight n 0 n.first ≡ total test
unfolding ending_weight total_weight
whole-is test tail n f = ap (sum_by (path_weight n 0 n.first)) (sym (filter-every (completions n 0 n.first))) ∙ f.ends every ∙ ap (sum_by test.weight) (filter-every test.reference)
