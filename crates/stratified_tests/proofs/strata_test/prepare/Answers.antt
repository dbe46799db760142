use Rattle.stratified_tests.proofs.OddsLaws.{no-odds}
use Rattle.stratified_tests.proofs.strata_test.prepare.Goals as goal

pub prepared-requires : goal.prepared-requires
prepared-requires c = no-odds
