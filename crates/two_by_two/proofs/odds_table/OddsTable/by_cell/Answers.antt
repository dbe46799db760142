use Rattle.std.proofs.Common.{◌≡◌, ◌∙◌, ap}
use Rattle.weights.specs.declared.odds.Odds.{Odds}
use Rattle.room_network.specs.RoomNetworks.{room_network}
use Rattle.label_network.specs.LabelNetwork.{over_rooms}
use Rattle.label_network.specs.Linear.{linear_meaning}
use Rattle.label_network.specs.Meanings.{Meaning}
use Rattle.label_network.specs.declared.linear.LinearMeasure.{LinearMeasure}
use Rattle.table_sums.specs.Tables.{column_sums, row_sums}
use Rattle.two_by_two.specs.FisherOdds.{odds_test}
use Rattle.two_by_two.specs.OddsNetworks.{odds_weights}
use Rattle.two_by_two.specs.declared.odds_rooms.OddsRooms.{OddsRooms}
use Rattle.two_by_two.proofs.odds_table.OddsTable.by_cell.Goals as goal

abbrev meaning_of : LinearMeasure → Meaning
meaning_of m = linear_meaning m.scores.items m.rows.items m.later.scores.items m.later.columns.items m.judge

pub new-requires : goal.new-requires
new-requires c = rw (c.row_sums-rows.ensures ∙ ap row_sums c.fisher.ensures, c.column_sums-columns.ensures ∙ ap column_sums c.fisher-2.ensures, (c.of-judge.ensures (odds_test c.args.self.now) c.frame.ensures.frame)) c.total-total.ensures.facts.linear

pub returns : goal.returns
returns c =
    let given = rw (c.row_sums-rows.ensures ∙ ap row_sums c.fisher.ensures, c.column_sums-columns.ensures ∙ ap column_sums c.fisher-2.ensures, (c.of-judge.ensures (odds_test c.args.self.now) c.frame.ensures.frame)) at c.in_ok-cell.ensures in
    let whole : c.new-cell.result ≡ (c.in_ok-rooms.rooms, c.in_ok-cell.cell) = c.new-cell.ensures.parts ∙ ap (λ (m : LinearMeasure). (c.in_ok-rooms.rooms, m)) c.new-3.ensures in
    ap (λ (x : OddsRooms × LinearMeasure). room_network (over_rooms (meaning_of x.1)) (odds_weights x.0.odds)) whole
    ∙ ap (λ (o : Odds). room_network (over_rooms (meaning_of c.in_ok-cell.cell)) (odds_weights o)) (c.in_ok-rooms.ensures.odds ∙ c.odds.ensures)
    ∙ ap (λ m. room_network (over_rooms m) (odds_weights c.args.self.now.odds)) given
