use Rattle.strata_cells.specs.Strata.{strata_of}
use Rattle.stratified_tests.proofs.FittingStrata.{bounded}
use Rattle.stratified_tests.proofs.ways.StrataTestPlain.first.Goals as goal

pub returns-clause-bounded : goal.returns-clause-bounded
returns-clause-bounded c = bounded c.args.self.now.odds (strata_of c.args.self.now.cells) c.made.ensures.fitting
