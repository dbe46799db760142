-- The network of the stratified rank sum test of some strata, and what is known of samples in
-- strata.
use Rattle.std.specs.Prelude.{◌≡◌, ◌<◌, ◌≤◌, List, length}
use Rattle.std.specs.List.{All}
use Rattle.weights.specs.Labellings.{counts_of}
use Rattle.weights.specs.declared.tails.Tail.{Tail}
use Rattle.record_reader.specs.declared.TheConstants.{MOST_ROWS}
use Rattle.sample_reader.specs.StrataGroups.{StrataGroupData}
use Rattle.sample_reader.specs.declared.subjects.Subject.{Subject}
use Rattle.networks.specs.Judged.{judge_of}
use Rattle.networks.specs.Network.{Network}
use Rattle.room_network.specs.RoomNetworks.{room_network}
use Rattle.stratified_ranks.specs.RankRooms.{rank_columns, rank_meaning, rank_weight}
use Rattle.stratified_ranks.specs.StratifiedRanks.{ranked_strata_test, strata_subjects}

abbrev pub ranked_strata_network : List (List Subject) → Network
ranked_strata_network strata =
    room_network (rank_meaning (rank_columns strata) (judge_of (ranked_strata_test strata)))
    (rank_weight (rank_columns strata))

-- one network for all tails
abbrev pub stratified_rank_network : StrataGroupData → Tail → Network
stratified_rank_network samples tail = ranked_strata_network (strata_subjects samples)

-- each subject has a stratum and one of two groups, and no stratum is empty
pub record AreUsable (samples : StrataGroupData) : Type 0 where
  pub few_enough : length samples.values ≤ MOST_ROWS
  pub one_group_each : length samples.members ≡ length samples.values
  pub two_groups : All (λ group. group < 2) samples.members
  pub one_stratum_each : length samples.places ≡ length samples.values
  pub strata_exist : All (λ stratum. stratum < length samples.strata) samples.places
  pub no_stratum_empty :
      All (λ size. 1 ≤ size) (counts_of (length samples.strata) samples.places)
