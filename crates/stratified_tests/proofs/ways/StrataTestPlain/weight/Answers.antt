use Rattle.std.proofs.Common.{◌∙◌}
use Rattle.strata_cells.specs.Strata.{strata_of}
use Rattle.stratified_tests.proofs.FittingStrata.{member-fits}
use Rattle.stratified_tests.proofs.ways.StrataTestPlain.weight.Goals as goal

pub labelling_weight-requires-clause-fits : goal.labelling_weight-requires-clause-fits
labelling_weight-requires-clause-fits c =
    let given = c.args.self.now in
    rw (c.odds-odds.ensures.given, c.as_slice.ensures ∙ c.made.ensures.tables) (member-fits given.odds (strata_of given.cells) c.made.ensures.fitting c.args.labels.now c.requires)
