-- Words for the bodies that count concordant pairs.
use Rattle.std.specs.Prelude.{◌≡◌, ℕ, ◌+◌, ◌-◌, ◌*◌, List, [], ◌∷◌, length, get_or, nat_eq, nat_le, if◌then◌else◌}
use Rattle.std.specs.List.{count_by, sum_by}
use Rattle.weights.specs.Labellings.{labellings, number_of_labellings}
use Rattle.concordant_pairs.specs.ConcordantPairs.{pairs_across, concordant_count, concordant_pairs}

-- the count that stands so many places before one, if any
abbrev pub before : List ℕ → ℕ → ℕ → ℕ
before counts u places = if nat_le places u then get_or counts (u - places) 0 else 0

-- a list has the count of each number of concordant pairs
pub record AreCounts (sizes counts : List ℕ) : Type 0 where
  pub each : (u : ℕ) → get_or counts u 0 ≡ concordant_count sizes u
  pub long : length counts ≡ pairs_across sizes + 1

-- how many labellings of some groups, each with a labelling of two more groups, have so many
-- concordant pairs together
abbrev pub mixed_count : List ℕ → ℕ → ℕ → ℕ → ℕ
mixed_count rest n m u =
    sum_by (λ xs. count_by (λ ys. nat_eq (concordant_pairs xs + concordant_pairs ys) u)
    (labellings (n ∷ m ∷ []))) (labellings rest)

-- how many there are in all
abbrev pub mixed_total : List ℕ → ℕ → ℕ → ℕ
mixed_total rest n m = number_of_labellings rest * number_of_labellings (n ∷ m ∷ [])

-- a list has the count of each number of concordant pairs of these
pub record AreMixed (rest : List ℕ) (n m : ℕ) (counts : List ℕ) : Type 0 where
  pub each : (u : ℕ) → get_or counts u 0 ≡ mixed_count rest n m u
  pub long : length counts ≡ n * m + pairs_across rest + 1
