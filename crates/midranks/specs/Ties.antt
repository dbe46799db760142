-- Tie groups: the distinct values of a list, ascending, each with how often it occurs.
use Rattle.std.specs.Prelude.{◌≡◌, ℕ, ℤ, ◌<◌, ◌<ℤ◌, ◌+◌, List, [], ◌∷◌, int_lt, if◌then◌else◌}
use Rattle.std.specs.List.{All, AllByRecursion, Any, sum_by}
use Rattle.std.specs.Ordering.{int_eq}
use Rattle.midranks.specs.declared.ties.Tie.{Tie}
use Rattle.midranks.specs.Midranks.{number_equal}

-- ascending groups with a value counted once more
abbrev pub with_one_more : ℤ → List Tie → List Tie
with_one_more v [] = record { value = v; count = 1 } ∷ []
with_one_more v (t ∷ ts) =
    if int_lt v t.value then record { value = v; count = 1 } ∷ t ∷ ts
    else (if int_eq v t.value then record { value = v; count = t.count + 1 } ∷ ts
    else t ∷ with_one_more v ts)

-- the tie groups of values: each value is counted in its turn
unfoldable pub tie_groups : List ℤ → List Tie
tie_groups [] = []
tie_groups (v ∷ vs) = with_one_more v (tie_groups vs)

-- how many values there are in groups
abbrev pub values_in : List Tie → ℕ
values_in ties = sum_by (λ t. t.count) ties

-- each group's value is less than those of all later groups
abbrev pub IsAscending : List Tie → Type 0
IsAscending [] = Unit {0}
IsAscending (t ∷ ts) = AllByRecursion (λ u. t.value <ℤ u.value) ts × IsAscending ts

-- each group counts how often its value occurs, and each value has its group
pub record AreCounted (values : List ℤ) (ties : List Tie) : Type 0 where
  pub some : All (λ t. 0 < t.count) ties
  pub often : All (λ t. t.count ≡ number_equal values t.value) ties
  pub each : All (λ v. Any (λ t. t.value ≡ v) ties) values
