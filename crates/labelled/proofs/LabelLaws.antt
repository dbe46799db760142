-- What each test of labellings has.
use Rattle.std.proofs.Common.{◌≡◌, ◌≤◌, ℕ, List, cond, Err, Some, None, inl, refl, sym, ◌∙◌, ap, subst, arith}
use Rattle.weights.specs.declared.wide.PrepareFault.{PrepareFault}
use Rattle.weights.specs.declared.wide.PrepareFault.TheVariants.{TooWide, NoMemory}
use Rattle.weights.specs.declared.wide.WideOf.TheVariants.{Total, Statistic}
use Rattle.weights.specs.declared.TheConstants.{MAX}
use Rattle.std.specs.Prelude.{ℤ, Contains}
use Rattle.weights.specs.declared.rules.Rule.TheVariants.{Far}
use Rattle.weights.specs.declared.tails.Tail.{Tail}
use Rattle.weights.specs.declared.tails.Tail.TheVariants.{Less, Greater, Two}
use Rattle.std.specs.List.{count_by}
use Rattle.weights.specs.Conditional.{is_extreme, numerator, total}
use Rattle.weights.specs.Labellings.{labellings, number_of_labellings}
use Rattle.weights.specs.Rules.{RuleFits, passes, rule_of}
use Rattle.weights.specs.Wide.{Prepares, too_wide}
use Rattle.weights.proofs.Centred.{IsCentred, bound-wide, measured-is, not-wide, rule-fits, total-wide}
use Rattle.weights.proofs.FirstLabel.{number_of_labellings-positive}
use Rattle.weights.proofs.ByRule.{is_extreme-by_rule}
use Rattle.weights.proofs.Chosen.{one_if}
use Rattle.weights.proofs.Members.{IsLabelling, labelling_from}
use Rattle.weights.proofs.Sums.{sum_by-filter, sum_by-one, sum_by-same_where}
use Rattle.enumerate.proofs.JoinedMembers.{each-labelling}
use Rattle.networks.specs.declared.verdicts.Judge.{Judge}
use Rattle.networks.specs.Follows.{Follows}
use Rattle.networks.specs.Judged.{JudgeFits, judge_of, rule_in}
use Rattle.networks.specs.Network.{Network}
use Rattle.networks.proofs.Following.{judge-fits}
use Rattle.label_network.proofs.Endings.{labelling_value}
use Rattle.label_network.specs.LabelNetwork.{label_network}
use Rattle.label_network.specs.Meanings.{Meaning, IsMeasure}
use Rattle.label_network.proofs.LabelFollows.{label_follows}
use Rattle.labelled.specs.LabelTests.{IsSound, IsWithin, IsRefusedBy, LabelTest, label_test}
use Rattle.labelled.specs.UnweightedTests.{CanBeAnswered}
use Rattle.labelled.proofs.UnweightedLaws.{can-be-answered}

pub total-of : (t : LabelTest) → total (label_test t) ≡ number_of_labellings t.sizes
total-of t = sum_by-one (labellings t.sizes)

pub total-some : (t : LabelTest) → 1 ≤ total (label_test t)
total-some t = omega (arith, total-of t, number_of_labellings-positive t.sizes)

module _ (t : LabelTest) (w : IsWithin t) where
  centred : IsCentred (label_test t) t.factor t.centre
  centred = record { by = refl; observed = w.fits t.observed w.observed; each = w.fits }

  -- the rules fit whatever both sides' rule does
  pub label-judge : (judge : Judge) → judge ≡ judge_of (label_test t) → (v : ℤ) → RuleFits (Far t.factor t.centre 0) v → JudgeFits judge v
  label-judge judge e v f = judge-fits (label_test t) judge e v (λ tail. rule-fits (label_test t) centred tail v f)

-- the network of a measure that ends at the statistic
pub label-follows : (t : LabelTest) (m : Meaning) → IsMeasure m → m.judge ≡ judge_of (label_test t) → m.rows ≡ t.sizes → ((xs : List ℕ) → Contains (labellings t.sizes) xs → t.statistic xs ≡ labelling_value m xs) → (tail : Tail) → Follows (label_test t) tail (label_network m)
label-follows t m s judge rows values tail = label_follows m s (label_test t) tail (record {
  judge_is = judge;
  reference = ap labellings (sym rows);
  alike = λ xs. refl;
  values = λ xs a. measured-is (label_test t) refl tail xs ∙ values xs (subst (λ ns. Contains (labellings ns) xs) rows a);
})

-- which is written down as it runs
pub label-sound : (t : LabelTest) (m : Meaning) → IsWithin t → IsMeasure m → m.judge ≡ judge_of (label_test t) → m.rows ≡ t.sizes → ((xs : List ℕ) → Contains (labellings t.sizes) xs → t.statistic xs ≡ labelling_value m xs) → IsSound t (label_network m) (label_network m)
label-sound t m within s judge rows values = record { within = within; follows = label-follows t m s judge rows values; written = λ tail. inl refl }

-- a test that is sound can be answered
pub label-answered : (t : LabelTest) (n q : Network) → IsSound t n q → CanBeAnswered (label_test t) n q
label-answered t n q s =
    can-be-answered (label_test t) (centred t s.within) (λ r. refl) s.within.shown (total-some t) (omega (arith, total-of t, s.within.total_fits)) s.follows s.written

-- what is too wide, and what is not
pub label-wide : (t : LabelTest) → (number_of_labellings t.sizes ≤ MAX → ⊥) → too_wide (label_test t) ≡ Some Total
label-wide t none = total-wide (label_test t) (total-of t) none

pub label-fits : (t : LabelTest) → number_of_labellings t.sizes ≤ MAX → t.bound ≤ MAX → too_wide (label_test t) ≡ None
label-fits t fits within = not-wide (label_test t) (total-of t) fits within

pub label-refused : {V : Type 0} (says : V → LabelTest) (value : V) (fault : PrepareFault) → number_of_labellings (says value).sizes ≤ MAX → IsRefusedBy (says value).bound fault → Prepares (λ v. label_test (says v)) value (Err fault)
label-refused says value (TooWide Total) fits is = absurd is
label-refused says value (TooWide Statistic) fits is = bound-wide (label_test (says value)) (total-of (says value)) fits is
label-refused says value NoMemory fits is = tt

-- where the statistic of each labelling is a value that is found otherwise, so are the numerators
module _ (t : LabelTest) (value : List ℕ → ℤ) (same : (xs : List ℕ) → IsLabelling t.sizes xs → t.statistic xs ≡ value xs) where
  pub numerator-by : (tail : Tail) → numerator (label_test t) tail ≡ count_by (λ xs. passes (rule_in (judge_of (label_test t)) tail) (value xs)) (labellings t.sizes)
  numerator-by tail =
      sum_by-filter (λ xs. 1) (is_extreme (label_test t) tail) (labellings t.sizes)
      ∙ sum_by-same_where (IsLabelling t.sizes) (λ xs. cond (is_extreme (label_test t) tail xs) 1 0) (λ xs. cond (passes (rule_in (judge_of (label_test t)) tail) (value xs)) 1 0) each (labellings t.sizes) (each-labelling t.sizes)
    where
      same-rule : (tail : Tail) → rule_of (label_test t) tail ≡ rule_in (judge_of (label_test t)) tail
      same-rule Less = refl
      same-rule Greater = refl
      same-rule Two = refl

      each : (xs : List ℕ) → IsLabelling t.sizes xs → one_if (is_extreme (label_test t) tail xs) ≡ one_if (passes (rule_in (judge_of (label_test t)) tail) (value xs))
      each xs l = ap one_if (
          is_extreme-by_rule (label_test t) tail xs
          ∙ ap (passes (rule_of (label_test t) tail)) (measured-is (label_test t) refl tail xs ∙ same xs l)
          ∙ ap (λ rule. passes rule (value xs)) (same-rule tail)
          )

  pub fit-by : (judge : Judge) → judge ≡ judge_of (label_test t) → IsWithin t → (xs : List ℕ) → Contains (labellings t.sizes) xs → JudgeFits judge (value xs)
  fit-by judge e within xs c = label-judge t within judge e (value xs) (subst (RuleFits (Far t.factor t.centre 0)) (same xs (labelling_from t.sizes xs c)) (within.fits xs c))
