use Rattle.std.proofs.Common.{◌≡◌}
use Rattle.std.specs.List.{sum}
use Rattle.label_network.specs.Measures.{Measured}
use Rattle.label_network.proofs.MeasuredNetworks.{extreme_counted, values_counted}
use Rattle.label_network.proofs.measured.LabelStages.new.Goals as goal

pub returns-clause-values : goal.returns-clause-values
returns-clause-values g c =
    let m : Measured = g.M.Measure.meaning c.args.measure in
    let level : sum m.columns ≡ sum m.rows = rw (c.requires.columns_are, c.requires.rows_are) at c.requires.labelled.level in
    values_counted m level

pub returns-clause-tails : goal.returns-clause-tails
returns-clause-tails g c =
    let m : Measured = g.M.Measure.meaning c.args.measure in
    let level : sum m.columns ≡ sum m.rows = rw (c.requires.columns_are, c.requires.rows_are) at c.requires.labelled.level in
    extreme_counted m level
