use Rattle.strata_cells.specs.Strata.{strata_of}
use Rattle.stratified_tests.proofs.FittingStrata.{shown}
use Rattle.stratified_tests.proofs.ways.StrataTestPrepared.has_tail.Goals as goal

pub returns-clause-shown : goal.returns-clause-shown
returns-clause-shown c = shown c.args.self.now.odds c.odds.ensures.odds (strata_of c.args.self.now.cells)
