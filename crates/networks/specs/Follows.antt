-- A network that follows a test: its completions end at what the test measures of its
-- rearrangements; and the answer of a test.
use Rattle.std.specs.Prelude.{◌≡◌, ℕ, ℤ, Bool, true, filter, Option, Some, None, if◌then◌else◌}
use Rattle.std.specs.List.{sum_by}
use Rattle.weights.specs.declared.tails.Tail.{Tail}
use Rattle.weights.specs.declared.tails.Tail.TheVariants.{Less, Greater, Two}
use Rattle.weights.specs.declared.tails.Tails.{Tails}
use Rattle.weights.specs.Conditional.{ConditionalTest, numerator, observed_statistic, total}
use Rattle.weights.specs.Rules.{measured}
use Rattle.networks.specs.Network.{Network}
use Rattle.networks.specs.Asked.{asks}
use Rattle.networks.specs.Completions.{value_weights}
use Rattle.networks.specs.Judged.{HasIntervals, judge_of}
use Rattle.networks.specs.Opened.{opened_below}
use Rattle.networks.specs.EachTail.{sum_for}
use Rattle.networks.specs.declared.tail_sums.TailSum.{TailSum}
use Rattle.networks.specs.declared.tail_sums.TailSums.{TailSums}
use Rattle.networks.specs.declared.answers.Answer.{Answer}
use Rattle.networks.specs.declared.answers.Way.{Way}
use Rattle.networks.specs.declared.answers.Way.TheVariants as way

-- the summed weight of the rearrangements whose measure for a tail passes
abbrev pub measured_weight : ConditionalTest → Tail → (ℤ → Bool) → ℕ
measured_weight test tail p =
    sum_by test.weight (filter (λ r. p (measured test tail r)) test.reference)

-- that of the rearrangements whose statistic passes
abbrev pub statistic_sums : ConditionalTest → (ℤ → Bool) → ℕ
statistic_sums test p = sum_by test.weight (filter (λ r. p (test.statistic r)) test.reference)

-- the verdicts are those of the test's rules over intervals, and as much weight ends at values that
-- pass as rearrangements have a measure for the tail that does
pub record Follows (test : ConditionalTest) (tail : Tail) (n : Network) : Type 0 where
  pub intervals : HasIntervals n (judge_of test)
  pub ends : (p : ℤ → Bool) → value_weights n p ≡ measured_weight test tail p

-- each tail that a test has is followed by its network
abbrev pub AllFollow : ConditionalTest → (Tail → Network) → Type 0
AllFollow test network = (t : Tail) → test.has_tail t ≡ true → Follows test t (network t)

-- the tails that a test has are served by one network
abbrev pub AreShared : ConditionalTest → (Tail → Network) → Type 0
AreShared test network = (s t : Tail)
    → test.has_tail s ≡ true → test.has_tail t ≡ true → network s ≡ network t

-- a network follows a test for each tail that the same network serves as one tail
abbrev pub FollowsAlong : ConditionalTest → (Tail → Network) → Tail → Network → Type 0
FollowsAlong test network tail n = (t : Tail)
    → test.has_tail t ≡ true → network t ≡ network tail → Follows test t n

abbrev pub HasTails : ConditionalTest → Tails → Type 0
HasTails test tails = (tail : Tail) → asks tails tail ≡ true → test.has_tail tail ≡ true

-- the sums of the asked tails are a test's numerators
abbrev pub AreNumerators : ConditionalTest → Tails → TailSums → Type 0
AreNumerators test tails sums = (tail : Tail)
    → asks tails tail ≡ true → (sum_for sums tail).sum ≡ numerator test tail

-- how many open keys the network of each tail has
abbrev pub open_keys : (Tail → Network) → Tail → ℕ
open_keys network tail = opened_below (network tail) tail (network tail).count

-- two networks of each tail that a test has open as many keys
abbrev pub OpenAlike : ConditionalTest → (Tail → Network) → (Tail → Network) → Type 0
OpenAlike test one other = (t : Tail)
    → test.has_tail t ≡ true → open_keys one t ≡ open_keys other t

-- no key is counted
abbrev pub uncounted : Tail → ℕ
uncounted tail = 0

-- how many of them are counted on a way
abbrev pub counted_by : Way → ℕ → ℕ
counted_by way.Network opened = opened
counted_by way.Plain opened = 0

abbrev pub tail_of : ConditionalTest → (Tail → ℕ) → Tail → Way → TailSum
tail_of test opened tail by =
    record { sum = numerator test tail; opened = counted_by by (opened tail) }

abbrev pub asked_tail : Bool → TailSum → Option TailSum
asked_tail asked sum = if asked then Some sum else None

-- the answer of a test that has so many open keys for each tail
abbrev pub answer_of : ConditionalTest → (Tail → ℕ) → Tails → Way → Answer
answer_of test opened tails by = record {
  statistic = observed_statistic test;
  scale = test.scale;
  total = total test;
  less = asked_tail tails.less (tail_of test opened Less by);
  greater = asked_tail tails.greater (tail_of test opened Greater by);
  two = asked_tail tails.two (tail_of test opened Two by);
}
