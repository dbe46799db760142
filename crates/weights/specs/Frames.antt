-- What a report says of a test beside its tails.
use Rattle.std.specs.Prelude.{◌≡◌, ℕ, ◌≤◌, List, Contains, true, if◌then◌else◌}
use Rattle.std.specs.List.{AllByRecursion}
use Rattle.weights.specs.declared.tails.Tail.{Tail}
use Rattle.weights.specs.declared.tails.Tail.TheVariants.{Less, Greater, Two}
use Rattle.weights.specs.declared.frames.Frame.{Frame}
use Rattle.weights.specs.Conditional.{ConditionalTest, observed_statistic, total}
use Rattle.weights.specs.Rules.{RuleFits, measured, rule_of}

pub record IsFrameOf (test : ConditionalTest) (frame : Frame) : Type 0 where
  pub statistic : frame.statistic ≡ observed_statistic test
  pub scale : frame.scale ≡ test.scale
  pub total : frame.total ≡ total test
  pub two : frame.two ≡ rule_of test Two

-- the rules of the tails compute no number of a rearrangement that passes a limit
pub record RulesFit (test : ConditionalTest) : Type 0 where
  pub fits : (tail : Tail) (r : List ℕ) → Contains test.reference r
      → RuleFits (rule_of test tail) (measured test tail r)

-- the first of the tails that a test has
abbrev pub first_tail : ConditionalTest → Tail
first_tail test =
    if test.has_tail Less then Less else (if test.has_tail Greater then Greater else Two)

-- a test has a tail, for the first of which its statistic is measured, and its rearrangements weigh
-- at least 1
pub record IsShown (test : ConditionalTest) : Type 0 where
  pub has : test.has_tail (first_tail test) ≡ true
  pub statistic_is : (r : List ℕ) → measured test (first_tail test) r ≡ test.statistic r
  pub weighty : AllByRecursion (λ r. 1 ≤ test.weight r) test.reference
