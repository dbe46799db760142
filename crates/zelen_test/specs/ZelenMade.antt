-- What is kept of strata that are prepared for Zelen's test.
use Rattle.std.specs.Prelude.{◌≡◌, ◌≤◌, ℕ, ℤ, List, length, map, Contains}
use Rattle.std.specs.List.{filter}
use Rattle.weights.specs.Conditional.{total}
use Rattle.weights.specs.Frames.{IsFrameOf}
use Rattle.weights.specs.declared.TheConstants.{MAX}
use Rattle.networks.specs.Follows.{AllFollow}
use Rattle.networks.specs.Judged.{JudgeFits, judge_of}
use Rattle.strata_cells.specs.declared.stratum.Stratum.{Stratum}
use Rattle.strata_cells.specs.Strata.{cells_of, cells_weight, strata_labellings}
use Rattle.zelen_test.specs.SumSteps.{AreSized}
use Rattle.zelen_test.specs.Zelen.{has_sum, observed_sum_labellings, observed_sum_test, rarity}
use Rattle.zelen_test.specs.ZelenNetwork.{number_with, observed_sum_network, own_sum}
use Rattle.zelen_test.specs.ZelenSteps.{AreSummed}
use Rattle.zelen_test.specs.declared.zelen.ObservedStrata.{ObservedStrata}

-- the first cells as they are
abbrev pub own_cells : List Stratum → List ℕ
own_cells strata = map (λ s. s.a) strata

-- what is kept of strata whose labellings with the observed sum pass no limit: the sum that is kept
-- gives the members, of which there is one, rules compute no number past a limit, and the network
-- follows the test
pub record AreObserved (strata : List Stratum) (made : ObservedStrata) : Type 0 where
  pub tables : made.strata ≡ strata
  pub sum_is : made.sum ≡ own_sum strata
  pub sized : AreSized strata made.sizes
  pub frame_is : IsFrameOf (observed_sum_test strata) made.frame
  pub fits : number_with strata (own_sum strata) ≤ MAX
  pub summed : AreSummed made.strata made.sum
  pub members : filter (has_sum made.strata made.sum) (strata_labellings made.strata)
      ≡ observed_sum_labellings strata
  pub some : 1 ≤ length (observed_sum_labellings strata)
  pub total_is : made.frame.total ≡ length (observed_sum_labellings strata)
  pub total_some : 1 ≤ total (observed_sum_test strata)
  pub bounded : total (observed_sum_test strata) ≤ MAX
  pub judged : (v : ℤ) → JudgeFits (judge_of (observed_sum_test strata)) v
  pub follows : AllFollow (observed_sum_test strata) (λ tail. observed_sum_network strata)

-- and of a member
pub record IsMember (strata : List Stratum) (labels : List ℕ) : Type 0 where
  pub labelled : Contains (strata_labellings strata) labels
  pub fits : cells_weight strata (cells_of strata labels) ≤ MAX
  pub rarity_is : cells_weight strata (cells_of strata labels) ≡ rarity strata labels
