-- The numerators of a test by the sums of a network that follows it.
use Rattle.std.proofs.Common.{◌≡◌, ℕ, sym, subst, ◌∙◌, ap}
use Rattle.weights.specs.Conditional.{ConditionalTest, numerator}
use Rattle.weights.specs.declared.tails.Tail.{Tail}
use Rattle.weights.specs.declared.tails.Tail.TheVariants.{Less}
use Rattle.networks.specs.Completions.{extreme_weight}
use Rattle.networks.specs.Follows.{Follows}
use Rattle.networks.specs.Judged.{HasIntervals, judge_of}
use Rattle.networks.specs.Network.{Network}
use Rattle.networks.specs.declared.verdicts.Judge.{Judge}
use Rattle.networks.proofs.Following.{extreme-is}

-- the verdicts go by the test's rules
pub judged : (test : ConditionalTest) (m n : Network) (judge : Judge) → m ≡ n → judge ≡ judge_of test → Follows test Less n → HasIntervals m judge
judged test m n judge e f follows = subst (λ i. HasIntervals i judge) (sym e) (subst (λ j. HasIntervals n j) (sym f) follows.intervals)

-- and the sum of a tail is its numerator
pub numerator-is : (test : ConditionalTest) (t : Tail) (m n : Network) (sum : ℕ) → m ≡ n → Follows test t n → sum ≡ extreme_weight m t 0 m.first → sum ≡ numerator test t
numerator-is test t m n sum e follows is = is ∙ ap (λ (i : Network). extreme_weight i t 0 i.first) e ∙ extreme-is test t n follows
