use Rattle.room_network.specs.RoomNetworks.{EndsAtMembers}
use Rattle.label_network.specs.LabelRooms.{label_plan}
use Rattle.label_network.proofs.LabelEnds.{ends-labelled, extreme-labelled}
use Rattle.label_network.proofs.network.label_stages.Goals as goal

pub returns-clause-values : goal.returns-clause-values
returns-clause-values g c =
    let ends : EndsAtMembers (label_plan c.args.columns.now c.args.rows.now) (g.M.Measure.meaning c.args.measure) = rw (c.in_ok-rooms.ensures.columns, c.in_ok-rooms.ensures.rows) at c.new-2.ensures.ends in
    rw c.new-2.ensures.parts (ends-labelled (g.M.Measure.meaning c.args.measure) c.args.columns.now c.args.rows.now c.requires.labelled.level ends)

pub returns-clause-tails : goal.returns-clause-tails
returns-clause-tails g c =
    let ends : EndsAtMembers (label_plan c.args.columns.now c.args.rows.now) (g.M.Measure.meaning c.args.measure) = rw (c.in_ok-rooms.ensures.columns, c.in_ok-rooms.ensures.rows) at c.new-2.ensures.ends in
    rw c.new-2.ensures.parts (extreme-labelled (g.M.Measure.meaning c.args.measure) c.args.columns.now c.args.rows.now c.requires.labelled.level ends)
