-- Scores on the way.
use Rattle.std.specs.Prelude.{◌≡◌, ⊤, ℕ, ℤ, pos, ◌*◌, ◌/◌, ◌%◌, ◌^◌, ◌<◌, ◌≤◌, nat_abs, nat_eq, Bool, List, [], ◌∷◌, map, take, drop, Result, Ok, Err}
use Rattle.std.specs.List.{sum}
use Rattle.midranks.specs.Ties.{tie_groups}
use Rattle.midranks.specs.declared.ties.Tie.{Tie}
use Rattle.scores.specs.RawScores.{decimals, raw_score}
use Rattle.scores.specs.Scores.{averaged}
use Rattle.weights.specs.Numbers.{absolute_sum}
use Rattle.scores.specs.declared.kinds.ScoreFault.{ScoreFault}
use Rattle.scores.specs.declared.kinds.ScoreFault.TheVariants.{TooWide, NoMemory}
use Rattle.scores.specs.declared.kinds.TieScores.{TieScores}
use Rattle.scores.specs.declared.kinds.Scored.{Scored}
use Rattle.scores.specs.declared.whole.WholeValues.{WholeValues}
use Rattle.weights.specs.declared.TheConstants.{MAX}

-- these scores over this scale, or the refusal of a sum that is too wide
abbrev pub IsScoredAs : List ℤ → ℕ → Result Scored ScoreFault → Type 0
IsScoredAs scores scale (Ok s) =
    (s.list ≡ scores) × (s.scale ≡ scale) × (s.sum ≡ absolute_sum scores)
    × (absolute_sum scores ≤ MAX)
IsScoredAs scores scale (Err TooWide) = MAX < absolute_sum scores
IsScoredAs scores scale (Err NoMemory) = ⊤

-- the scores of tie groups, and of all their values, are these over this scale, or the refusal
abbrev pub AreScoredBy : (ℤ → ℤ) → ℕ → List ℤ → Result TieScores ScoreFault → Type 0
AreScoredBy f scale values (Ok g) =
    (g.ties ≡ tie_groups values) × (g.scores ≡ map (λ t. f t.value) (tie_groups values))
    × IsScoredAs (map f values) scale (Ok g.all)
AreScoredBy f scale values (Err TooWide) = MAX < absolute_sum (map f values)
AreScoredBy f scale values (Err NoMemory) = ⊤

-- scores by the scores of places
abbrev pub averaged_scores : List ℕ → List ℤ → List ℤ
averaged_scores places values = map (λ v. pos (averaged places values v)) values

-- group by group, the mean of the next place scores, times a multiple
abbrev pub group_scores : ℕ → List Tie → List ℕ → List ℕ
group_scores multiple [] places = []
group_scores multiple (t ∷ ts) places =
    (sum (take t.count places) * (multiple / t.count))
    ∷ group_scores multiple ts (drop t.count places)

-- a value is a multiple of a number
abbrev pub is_multiple_of : ℕ → ℤ → Bool
is_multiple_of unit v = nat_eq (nat_abs v % unit) 0

-- values times the least power of ten that makes them whole, and that power
pub record AreWhole (values : List ℤ) (whole : WholeValues) : Type 0 where
  pub list : whole.list ≡ map (raw_score (decimals values)) values
  pub power : whole.power ≡ 10 ^ decimals values
