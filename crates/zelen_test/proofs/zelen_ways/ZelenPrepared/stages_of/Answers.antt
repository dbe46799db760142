use Rattle.std.proofs.Common.{◌≡◌, ◌∙◌, List, ap, sym, subst}
use Rattle.networks.specs.Judged.{JudgeFits, judge_of}
use Rattle.networks.specs.declared.verdicts.Judge.{Judge}
use Rattle.room_network.specs.RoomNetworks.{room_network}
use Rattle.strata_cells.specs.declared.stratum.Stratum.{Stratum}
use Rattle.strata_cells.specs.Strata.{strata_of}
use Rattle.zelen_test.specs.Zelen.{observed_sum_test}
use Rattle.zelen_test.specs.ZelenNetwork.{zelen_meaning, zelen_weights}
use Rattle.zelen_test.specs.declared.sum_counts.SumCounts.{SumCounts}
use Rattle.zelen_test.specs.declared.zelen_measure.ZelenMeasure.{ZelenMeasure}
use Rattle.zelen_test.specs.declared.zelen_rooms.ZelenRooms.{ZelenRooms}
use Rattle.zelen_test.proofs.ZelenTests.{network-same}
use Rattle.zelen_test.proofs.zelen_ways.ZelenPrepared.stages_of.Goals as goal

pub new-requires : goal.new-requires
new-requires c v =
    let strata : List Stratum = strata_of c.args.self.now in
    let judge : c.of.result ≡ judge_of (observed_sum_test strata) = c.of.ensures (observed_sum_test strata) c.made-made.ensures.frame_is in
    subst (λ (j : Judge). JudgeFits j v) (sym judge) (c.made-made.ensures.judged v)

pub returns-clause-built : goal.returns-clause-built
returns-clause-built c =
    let strata : List Stratum = strata_of c.args.self.now in
    let made = c.made-made.ensures in
    let judge : c.of.result ≡ judge_of (observed_sum_test strata) = c.of.ensures (observed_sum_test strata) made.frame_is in
    let measure = c.in_ok-measure.ensures in
    let whole : c.new-network.result ≡ (c.new-rooms.result, c.in_ok-measure.measure) = c.new-network.ensures.parts ∙ ap (λ (m : ZelenMeasure). (c.new-rooms.result, m)) c.new-2.ensures in
    ap (λ (b : ZelenRooms × ZelenMeasure). room_network (zelen_meaning b.1.counts.strata b.1.counts.sum b.1.judge) (zelen_weights b.0.counts.strata)) whole
    ∙ network-same strata c.new-rooms.result.counts.strata c.in_ok-measure.measure.counts.strata c.in_ok-measure.measure.counts.sum c.in_ok-measure.measure.judge
    (ap (λ (r : SumCounts). r.strata) c.new-rooms.ensures ∙ c.in_ok-counts_of.ensures.strata ∙ made.tables)
    (ap (λ (r : SumCounts). r.strata) measure.counts ∙ c.in_ok-counts.ensures.strata ∙ made.tables)
    (ap (λ (r : SumCounts). r.sum) measure.counts ∙ c.in_ok-counts.ensures.sum ∙ made.sum_is)
    (measure.judge ∙ judge)
