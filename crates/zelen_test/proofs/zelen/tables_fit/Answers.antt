use Rattle.strata_cells.specs.Strata.{strata_of}
use Rattle.strata_cells.proofs.StrataReads.{strata-few, strata-small}
use Rattle.zelen_test.proofs.ZelenTests.{summed}
use Rattle.zelen_test.proofs.zelen.tables_fit.Goals as goal

pub returns-clause-small : goal.returns-clause-small
returns-clause-small c = strata-small c.args._strata.now.cells c.args._strata.now.in_range

pub returns-clause-few : goal.returns-clause-few
returns-clause-few c = strata-few c.args._strata.now.cells c.args._strata.now.few_enough

pub returns-clause-can : goal.returns-clause-can
returns-clause-can c = summed (strata_of c.args._strata.now.cells) (strata-small c.args._strata.now.cells c.args._strata.now.in_range) (strata-few c.args._strata.now.cells c.args._strata.now.few_enough)
