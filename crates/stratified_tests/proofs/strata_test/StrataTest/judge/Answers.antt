use Rattle.stratified_tests.specs.StrataTests.{strata_test}
use Rattle.stratified_tests.proofs.strata_test.StrataTest.judge.Goals as goal

pub returns : goal.returns
returns c = c.of.ensures (strata_test c.args.self.now) c.made.ensures.frame
