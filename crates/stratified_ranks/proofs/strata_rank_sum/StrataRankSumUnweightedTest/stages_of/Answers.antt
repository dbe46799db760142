use Rattle.std.proofs.Common.{◌∙◌, List, ap}
use Rattle.sample_reader.specs.declared.subjects.Subject.{Subject}
use Rattle.networks.specs.Network.{Network}
use Rattle.room_network.specs.RoomNetworks.{room_network}
use Rattle.stratified_ranks.specs.RankRooms.{rank_meaning, rank_weight}
use Rattle.stratified_ranks.specs.StratifiedRanks.{strata_subjects}
use Rattle.stratified_ranks.specs.declared.rank_measure.RankMeasure.{RankMeasure}
use Rattle.stratified_ranks.specs.declared.rank_rooms.RankRooms.{RankRooms}
use Rattle.stratified_ranks.proofs.RankLimits.{network-same}
use Rattle.stratified_ranks.proofs.strata_rank_sum.StrataRankSumUnweightedTest.stages_of.Goals as goal

pub invariant_of-measure : goal.invariant_of-measure
invariant_of-measure c =
    let made = c.made-made.ensures in
    record { right = rw (c.in_ok-columns.ensures, c.requires) made.sums_fit }

pub returns : goal.returns
returns c =
    let strata : List (List Subject) = strata_subjects c.args.self.now in
    let made = c.made-made.ensures in
    let numbers : RankMeasure → Network = λ m. room_network (rank_meaning m.columns m.judge) (rank_weight c.in_ok-rooms.rooms.columns) in
    ap (λ (b : RankRooms × RankMeasure). room_network (rank_meaning b.1.columns b.1.judge) (rank_weight b.0.columns)) c.new-network.ensures.parts
    ∙ ap numbers c.new-2.ensures
    ∙ network-same strata c.in_ok-rooms.rooms.columns c.in_ok-columns.columns c.args.judge
    (c.in_ok-rooms.ensures ∙ c.in_ok-copy.ensures ∙ made.lists.columns) (c.in_ok-columns.ensures ∙ made.lists.columns) c.requires
