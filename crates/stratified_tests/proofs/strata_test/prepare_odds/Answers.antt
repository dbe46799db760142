use Rattle.stratified_tests.proofs.OddsLaws.{some-odds}
use Rattle.stratified_tests.proofs.strata_test.prepare_odds.Goals as goal

pub prepared-requires : goal.prepared-requires
prepared-requires c = some-odds c.args.odds c.requires
