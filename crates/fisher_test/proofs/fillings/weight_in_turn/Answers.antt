use Rattle.fisher_test.proofs.FilledColumns.{filled-few, filled-held, filled-whole, first-row}
use Rattle.fisher_test.proofs.fillings.weight_in_turn.Goals as goal

pub labellings-requires-clause-whole : goal.labellings-requires-clause-whole
labellings-requires-clause-whole c = rw c.fill_in_turn.ensures (filled-whole c.args.units c.args.rows.now c.requires.room)

pub labellings-requires-clause-held : goal.labellings-requires-clause-held
labellings-requires-clause-held c = rw c.fill_in_turn.ensures (filled-held c.args.units c.args.rows.now c.requires.room c.args.binomials.now.width c.requires.rows.held)

pub labellings-requires-clause-fits : goal.labellings-requires-clause-fits
labellings-requires-clause-fits c = rw c.fill_in_turn.ensures (filled-few c.args.units c.args.rows.now c.requires.room c.requires.rows.total_fits)

pub returns-then-units-rows : goal.returns-then-units-rows
returns-then-units-rows c = first-row c.args.units c.args.rows.now c.requires.rows.some c.if-units-rows.true
