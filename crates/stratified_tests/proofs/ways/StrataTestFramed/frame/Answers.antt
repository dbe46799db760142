use Rattle.strata_cells.specs.Strata.{strata_of}
use Rattle.weights.proofs.Centred.{rules-fit}
use Rattle.stratified_tests.specs.StrataTests.{strata_test}
use Rattle.stratified_tests.proofs.FittingStrata.{centred, some-labelling}
use Rattle.stratified_tests.proofs.ways.StrataTestFramed.frame.Goals as goal

pub returns-clause-fits : goal.returns-clause-fits
returns-clause-fits c = rules-fit (strata_test c.args.self.now) (centred c.args.self.now.odds (strata_of c.args.self.now.cells) c.made.ensures.fitting)

pub returns-clause-some : goal.returns-clause-some
returns-clause-some c = some-labelling c.args.self.now.odds (strata_of c.args.self.now.cells) c.made.ensures.fitting
