-- What a test owes whose tails all go by its statistic, both sides by its distance from a centre; and what of any test is too wide.
use Rattle.std.proofs.Common.{◌≡◌, true, ℕ, ◌+◌, ◌*◌, ◌<◌, ◌≤◌, List, [], ◌∷◌, Some, None, refl, sym, ◌∙◌, ap, subst, arith, lit≤}
use Rattle.std.specs.Prelude.{ℤ, pos, ◌-ℤ◌, ◌*ℤ◌, nat_abs, unsigned_abs, Contains}
use Rattle.std.specs.List.{AllByRecursion}
use Rattle.std.proofs.Math.IntN.{zero-*ℤ}
use Rattle.std.proofs.lemmas.Bool.{le-ltb, lt-ltb}
use Rattle.std.proofs.lemmas.Int.{ints, unsigned_abs-mul}
use Rattle.weights.specs.declared.frames.Frame.{Frame}
use Rattle.weights.specs.declared.rules.Rule.TheVariants.{AtLeast, AtMost, Far}
use Rattle.weights.specs.declared.tails.Tail.{Tail}
use Rattle.weights.specs.declared.tails.Tail.TheVariants.{Less, Greater, Two}
use Rattle.weights.specs.declared.wide.WideOf.TheVariants.{Total, Statistic}
use Rattle.weights.specs.declared.TheConstants.{MAX}
use Rattle.weights.specs.Conditional.{ConditionalTest, by_distance, distance, observed_statistic, total, unit_weight}
use Rattle.weights.specs.Frames.{IsFrameOf, IsShown, RulesFit, first_tail}
use Rattle.weights.specs.Rules.{RuleFits, measured, measured_on_both, rule_of, rule_on_both}
use Rattle.weights.specs.Wide.{too_wide}

-- ---- the numbers of a rule

abs-minus : (a c : ℤ) → unsigned_abs (a -ℤ c) ≤ unsigned_abs a + unsigned_abs c
abs-minus a c = grind (arith, ints)

-- a factor of a value and a centre, both together within the limit
pub far-fits : (q : ℕ) (c v : ℤ) → q ≤ MAX → q * unsigned_abs v + unsigned_abs c ≤ MAX → RuleFits (Far q c 0) v
far-fits q c v least within = record {
  least_factor = least;
  observed = lit≤ tt;
  times = omega (arith, unsigned_abs-mul (pos q) v, within);
  apart = omega (arith, abs-minus (pos q *ℤ v) c, unsigned_abs-mul (pos q) v, within);
}

apart-within : (x c : ℕ) → x ≤ MAX → c ≤ MAX → nat_abs (pos x -ℤ pos c) ≤ MAX
apart-within x c h l = grind (arith, ints)

-- or each within it, where neither is negative
pub far_natural-fits : (q c n : ℕ) → q ≤ MAX → c ≤ MAX → q * n ≤ MAX → RuleFits (Far q (pos c) 0) (pos n)
far_natural-fits q c n least centre within = record { least_factor = least; observed = lit≤ tt; times = within; apart = apart-within (q * n) c within centre }

pub no-distance : (v : ℤ) → distance 0 (pos 0) v ≤ MAX
no-distance v = subst (λ z. nat_abs (z -ℤ pos 0) ≤ MAX) (sym (zero-*ℤ v)) (omega arith)

pub no-times : (v : ℤ) → nat_abs (pos 0 *ℤ v) ≤ MAX
no-times v = subst (λ z. nat_abs z ≤ MAX) (sym (zero-*ℤ v)) (omega arith)

-- a rule without a factor computes no great number
pub no_factor-fits : (v : ℤ) → RuleFits (Far 0 (pos 0) 0) v
no_factor-fits v = record { least_factor = lit≤ tt; observed = lit≤ tt; times = no-times v; apart = no-distance v }

pub at_most-fits : (t v : ℤ) → RuleFits (AtMost t) v
at_most-fits t v = record { least_factor = lit≤ tt; observed = lit≤ tt; times = no-times v; apart = no-distance v }

pub at_least-fits : (t v : ℤ) → RuleFits (AtLeast t) v
at_least-fits t v = record { least_factor = lit≤ tt; observed = lit≤ tt; times = no-times v; apart = no-distance v }

-- ---- weights of 1

pub all-weigh : (rs : List (List ℕ)) → AllByRecursion (λ r. 1 ≤ unit_weight r) rs
all-weigh [] = tt
all-weigh (r ∷ rs) = (omega arith, all-weigh rs)

-- ---- both sides by distance

pub measured-is : {q : ℕ} {c : ℤ} (test : ConditionalTest) → test.two_sided ≡ by_distance q c → (tail : Tail) (r : List ℕ) → measured test tail r ≡ test.statistic r
measured-is test e Less r = refl
measured-is test e Greater r = refl
measured-is test e Two r = ap (λ two. measured_on_both two test r) e

pub rule-is : {q : ℕ} {c : ℤ} (test : ConditionalTest) → test.two_sided ≡ by_distance q c → rule_of test Two ≡ Far q c (distance q c (observed_statistic test))
rule-is test e = ap (λ two. rule_on_both two test) e

-- and of a test whose rearrangements weigh at least 1 each, its first tail tells the distribution
pub shown : {q : ℕ} {c : ℤ} (test : ConditionalTest) → test.two_sided ≡ by_distance q c → test.has_tail (first_tail test) ≡ true → AllByRecursion (λ r. 1 ≤ test.weight r) test.reference → IsShown test
shown test e has weighty = record { has = has; statistic_is = measured-is test e (first_tail test); weighty = weighty }

-- both sides go by how far q times the statistic is from c, and no number of this that is computed passes the limit
pub record IsCentred (test : ConditionalTest) (q : ℕ) (c : ℤ) : Type 0 where
  pub by : test.two_sided ≡ by_distance q c
  pub observed : RuleFits (Far q c 0) (observed_statistic test)
  pub each : (r : List ℕ) → Contains test.reference r → RuleFits (Far q c 0) (test.statistic r)

at-distance : {q : ℕ} {c : ℤ} (d : ℕ) (v : ℤ) → d ≤ MAX → RuleFits (Far q c 0) v → RuleFits (Far q c d) v
at-distance d v h f = record { least_factor = f.least_factor; observed = h; times = f.times; apart = f.apart }

pub rule-fits : {q : ℕ} {c : ℤ} (test : ConditionalTest) → IsCentred test q c → (tail : Tail) (v : ℤ) → RuleFits (Far q c 0) v → RuleFits (rule_of test tail) v
rule-fits test m Less v f = at_most-fits (observed_statistic test) v
rule-fits test m Greater v f = at_least-fits (observed_statistic test) v
rule-fits test m Two v f = subst (λ rule. RuleFits rule v) (sym (rule-is test m.by)) (at-distance _ v m.observed.apart f)

pub rules-fit : {q : ℕ} {c : ℤ} (test : ConditionalTest) → IsCentred test q c → RulesFit test
rules-fit test m = record { fits = λ tail r i. subst (RuleFits (rule_of test tail)) (sym (measured-is test m.by tail r)) (rule-fits test m tail (test.statistic r) (m.each r i)) }

pub framed : (q : ℕ) (c : ℤ) (test : ConditionalTest) (frame : Frame) → test.two_sided ≡ by_distance q c → frame.statistic ≡ observed_statistic test → frame.scale ≡ test.scale → frame.total ≡ total test → frame.two ≡ Far q c (distance q c frame.statistic)
    → IsFrameOf test frame
framed q c test frame e statistic scale whole two = record {
  statistic = statistic;
  scale = scale;
  total = whole;
  two = two ∙ ap (λ v. Far q c (distance q c v)) statistic ∙ sym (rule-is test e);
}

-- ---- what is too wide

pub past-limit : (n : ℕ) → (n ≤ MAX → ⊥) → MAX < n
past-limit n cannot = omega (arith, cannot)

pub total-wide : {n : ℕ} (test : ConditionalTest) → total test ≡ n → (n ≤ MAX → ⊥) → too_wide test ≡ Some Total
total-wide test e cannot = rw (lt-ltb MAX (total test) (omega (arith, e, past-limit _ cannot))) refl

pub bound-wide : {n : ℕ} (test : ConditionalTest) → total test ≡ n → n ≤ MAX → MAX < test.bound → too_wide test ≡ Some Statistic
bound-wide test e fits wide = rw (le-ltb MAX (total test) (omega (arith, e, fits)), lt-ltb MAX test.bound wide) refl

pub not-wide : {n : ℕ} (test : ConditionalTest) → total test ≡ n → n ≤ MAX → test.bound ≤ MAX → too_wide test ≡ None
not-wide test e fits within = rw (le-ltb MAX (total test) (omega (arith, e, fits)), le-ltb MAX test.bound within) refl
