-- Words of the walk through the labellings with a given sum.
use Rattle.std.specs.Prelude.{◌≡◌, ℕ, ◌≤◌, List, [], ◌∷◌, length, map, filter, Contains, Bool, true, false, if◌then◌else◌}
use Rattle.std.specs.List.{sum}
use Rattle.record_reader.specs.declared.TheConstants.{MOST_ROWS}
use Rattle.enumerate.specs.Walk.{members_after}
use Rattle.strata_cells.specs.declared.stratum.Stratum.{Stratum}
use Rattle.strata_cells.specs.Strata.{row_counts, strata_labellings}
use Rattle.strata_cells.specs.StrataLimits.{AreSmall}
use Rattle.zelen_test.specs.Zelen.{has_sum}

-- strata of a file with their sizes
pub record AreSized (strata : List Stratum) (sizes : List ℕ) : Type 0 where
  pub small : AreSmall strata
  pub few : length strata ≤ MOST_ROWS
  pub sizes_are : map sum (map row_counts strata) ≡ sizes

-- a step from a labelling to the next that has the sum, or past all
pub record IsOnward (strata : List Stratum) (given : ℕ) (old : List ℕ) (moved : Bool)
    (new : List ℕ) : Type 0 where
  pub member : Contains (strata_labellings strata) new
  pub onward : let all = strata_labellings strata in
      filter (has_sum strata given) (members_after old all)
      ≡ (if moved then new ∷ filter (has_sum strata given) (members_after new all) else [])
  pub has : moved ≡ true → has_sum strata given new ≡ true
  pub last : moved ≡ false → members_after new (strata_labellings strata) ≡ []

-- the last labelling that has the sum
pub record IsLastWith (strata : List Stratum) (given : ℕ) (labels : List ℕ) : Type 0 where
  pub member : Contains (filter (has_sum strata given) (strata_labellings strata)) labels
  pub last : members_after labels (filter (has_sum strata given) (strata_labellings strata)) ≡ []
