-- The estimate of the shift between two samples, and its exact limits (Hodges and Lehmann, Annals
-- of Mathematical Statistics 34, 1963; Hollander and Wolfe, Nonparametric Statistical Methods,
-- chapter 4).
use Rattle.std.specs.Prelude.{◌≡◌, ⊤, ◌↔◌, ℕ, ◌+◌, ◌-◌, ◌*◌, ◌^◌, ◌<◌, ◌≤◌, ℤ, ◌<ℤ◌, int_lt, nat_eq, Bool, nat_lt, List, length, Option, Some, None, Result, Ok, Err, if◌then◌else◌}
use Rattle.std.specs.List.{count_by}
use Rattle.weights.specs.Labellings.{number_of_labellings}
use Rattle.weights.specs.declared.TheConstants.{MAX}
use Rattle.weights.specs.declared.limits.Limits.{Limits}
use Rattle.weights.specs.declared.odds.Odds.{Odds}
use Rattle.sample_reader.specs.Groups.{GroupData, group_sizes}
use Rattle.shift_limits.specs.Differences.{difference_at, differences, middle_of, decimal_places_of}
use Rattle.shift_limits.specs.LaterPairs.{greatest_to, labellings_below, misses_at_most}
use Rattle.shift_limits.specs.declared.faults.ShiftFault.{ShiftFault}
use Rattle.shift_limits.specs.declared.faults.ShiftFault.TheVariants.{TooWide, NoMemory}

-- at which place from either end the limits stand: the greatest at which they miss at most this
-- part of the labellings, and 0 where there is none
abbrev pub place_of_limits : GroupData → Odds → ℕ
place_of_limits groups miss =
    greatest_to (misses_at_most (group_sizes groups) miss) (length (differences groups))

-- a limit, where limits have a place
abbrev pub limit_at : ℕ → ℤ → Option ℤ
limit_at place difference = if nat_eq place 0 then None else Some difference

abbrev pub limits_of : GroupData → Odds → Limits
limits_of groups miss =
    let list = differences groups in
    let place = place_of_limits groups miss in
    record {
      differences = length list;
      places = decimal_places_of groups;
      middle = middle_of list;
      lower = limit_at place (difference_at list place);
      upper = limit_at place (difference_at list (length list + 1 - place));
      total = number_of_labellings (group_sizes groups);
      missed = 2 * labellings_below (group_sizes groups) place;
    }

-- there are too many labellings
abbrev pub is_shift_too_wide : GroupData → Bool
is_shift_too_wide groups = nat_lt MAX (number_of_labellings (group_sizes groups))

-- limits are told exactly where the labellings are not too many, but for want of memory
abbrev pub MeetsLimits : GroupData → Odds → Result Limits ShiftFault → Type 0
MeetsLimits groups miss (Ok limits) =
    (limits ≡ limits_of groups miss) × (number_of_labellings (group_sizes groups) ≤ MAX)
MeetsLimits groups miss (Err TooWide) = MAX < number_of_labellings (group_sizes groups)
MeetsLimits groups miss (Err NoMemory) = ⊤

-- so many of some differences at least are below a number, and as many above it
abbrev pub HasEitherSide : ℕ → List ℤ → ℤ → Type 0
HasEitherSide place list z =
    (place ≤ count_by (λ d. int_lt d z) list) × (place ≤ count_by (λ d. int_lt z d) list)

-- a number lies between the limits exactly where at least as many differences as their place says
-- are below it, and as many above it
abbrev pub LimitsDivide : GroupData → Odds → Limits → Type 0
LimitsDivide groups miss limits =
    (lower upper z : ℤ) → limits.lower ≡ Some lower → limits.upper ≡ Some upper
    → (lower <ℤ z) × (z <ℤ upper)
    ↔ HasEitherSide (place_of_limits groups miss) (differences groups) z

-- what a report of limits rests on
pub record AreShown (limits : Limits) : Type 0 where
  pub some : 1 ≤ limits.total
  pub fits : limits.total ≤ MAX
  pub part : limits.missed ≤ limits.total
  pub whole : 1 ≤ limits.places
  pub few_places : limits.places ≤ 10 ^ 18
