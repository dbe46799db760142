use Rattle.std.proofs.Common.{refl}
use Rattle.std.proofs.lemmas.Result.{err_from_is_err_and}
use Rattle.table_reader.specs.Data.{table_data_of}
use Rattle.two_by_two.specs.FisherOdds.{WeightedTable}
use Rattle.two_by_two.specs.OddsSteps.{weighted_of}
use Rattle.two_by_two.proofs.OddsTests.{not-wide, refused, total-wide}
use Rattle.two_by_two.proofs.odds_table.OddsTable.prepare.Goals as goal

pub weigh_all-requires-clause-square : goal.weigh_all-requires-clause-square
weigh_all-requires-clause-square c = rw c.in_ok-fisher.ensures.0 c.requires.square

pub returns-in_err-fisher : goal.returns-in_err-fisher
returns-in_err-fisher c =
    let w : WeightedTable = weighted_of (table_data_of c.args.table.now) c.args.odds in
    let p = err_from_is_err_and c.from_residual.result c.from_residual.ensures.1 in
    rw (p.1, p.2) (refused w c.requires.odds c.in_err-fisher.field-0.0 c.in_err-fisher.ensures)

pub returns-in_default : goal.returns-in_default
returns-in_default c =
    let w : WeightedTable = weighted_of (table_data_of c.args.table.now) c.args.odds in
    total-wide w c.requires.odds (rw c.in_ok-fisher.ensures.0 at c.in_default.ensures)

pub returns : goal.returns
returns c =
    let w : WeightedTable = weighted_of (table_data_of c.args.table.now) c.args.odds in
    let total = rw c.in_ok-fisher.ensures.0 at c.in-Some.ensures in
    (rw c.in_ok-fisher.ensures.0 refl, not-wide w c.requires.odds total.0)
