-- What an interval that holds a value says of the value's rule, and networks whose verdicts come
-- of intervals.
use Rattle.std.specs.Prelude.{◌≡◌, ℕ, ◌+◌, ◌<◌, ℤ, pos, ◌-ℤ◌, ◌*ℤ◌, ◌≤ℤ◌, List, Bool, true, false, nat_eq, int_le, int_lt, ◌||◌, ◌&&◌, if◌then◌else◌}
use Rattle.std.specs.List.{Contains}
use Rattle.weights.specs.declared.tails.Tail.{Tail}
use Rattle.weights.specs.declared.tails.Tail.TheVariants.{Less, Greater, Two}
use Rattle.weights.specs.declared.rules.Rule.{Rule}
use Rattle.weights.specs.declared.rules.Rule.TheVariants.{AtMost, AtLeast, Far}
use Rattle.weights.specs.Conditional.{ConditionalTest}
use Rattle.weights.specs.Rules.{RuleFits, rule_of}
use Rattle.networks.specs.declared.stages.Verdict.{Verdict}
use Rattle.networks.specs.declared.stages.Verdict.TheVariants.{Inside, Outside, Undecided}
use Rattle.networks.specs.declared.verdicts.Judge.{Judge}
use Rattle.networks.specs.Network.{Network, IsReached}

-- how far, and to which side, q times a value is from the centre
abbrev pub offset : ℕ → ℤ → ℤ → ℤ
offset q c v = (pos q *ℤ v) -ℤ c

-- inside is tried first
abbrev pub settled : Bool → Bool → Verdict
settled inside outside =
    if inside then Inside else (if outside then Outside else Undecided)

-- of the numbers from a to b all are at least d from 0, and none is
abbrev pub far_inside : ℕ → ℤ → ℤ → Bool
far_inside d a b = nat_eq d 0 || int_le (pos d) a || int_le b (pos 0 -ℤ pos d)

abbrev pub far_outside : ℕ → ℤ → ℤ → Bool
far_outside d a b = int_lt b (pos d) && int_lt (pos 0 -ℤ pos d) a

abbrev pub far_verdict : ℕ → ℤ → ℤ → Verdict
far_verdict d a b = settled (far_inside d a b) (far_outside d a b)

-- what is known of the rule where the value lies from low to high
abbrev pub verdict_of : Rule → ℤ → ℤ → Verdict
verdict_of (AtMost t) low high = settled (int_le high t) (int_lt t low)
verdict_of (AtLeast t) low high = settled (int_le t low) (int_lt high t)
verdict_of (Far q c d) low high = far_verdict d (offset q c low) (offset q c high)

abbrev pub is_tail : Tail → Tail → Bool
is_tail Less Less = true
is_tail Greater Greater = true
is_tail Two Two = true
is_tail _ _ = false

-- the rule of a tail
abbrev pub rule_in : Judge → Tail → Rule
rule_in judge Less = judge.less
rule_in judge Greater = judge.greater
rule_in judge Two = judge.two

-- the rules of a test
abbrev pub judge_of : ConditionalTest → Judge
judge_of test =
    record { less = rule_of test Less; greater = rule_of test Greater; two = rule_of test Two }

-- the numbers that the rules compute of a value pass no limit
pub record JudgeFits (judge : Judge) (v : ℤ) : Type 0 where
  pub fits : (t : Tail) → RuleFits (rule_in judge t) v

-- Each reached key has an interval, from low to high, that narrows along every arc, to the value
-- at the last stage; its verdict for a tail is that of the tail's rule over the interval.
pub record HasIntervals (n : Network) (judge : Judge) : Type 0 where
  pub low : ℕ → List ℤ → ℤ
  pub high : ℕ → List ℤ → ℤ
  pub verdicts : (t : Tail) (g : ℕ) (k : List ℤ)
      → IsReached n g k → n.verdict t g k ≡ verdict_of (rule_in judge t) (low g k) (high g k)
  pub low_rises : (g : ℕ) (k : List ℤ) (c : List ℕ)
      → IsReached n g k → g < n.count → Contains (n.choices g k) c
      → low g k ≤ℤ low (g + 1) (n.next g k c)
  pub high_falls : (g : ℕ) (k : List ℤ) (c : List ℕ)
      → IsReached n g k → g < n.count → Contains (n.choices g k) c
      → high (g + 1) (n.next g k c) ≤ℤ high g k
  pub low_ends : (k : List ℤ) → IsReached n n.count k → low n.count k ≡ n.value k
  pub high_ends : (k : List ℤ) → IsReached n n.count k → high n.count k ≡ n.value k

-- the verdicts are those of some rules over intervals
pub record IsJudged (n : Network) : Type 0 where
  pub judge : Judge
  pub intervals : HasIntervals n judge
