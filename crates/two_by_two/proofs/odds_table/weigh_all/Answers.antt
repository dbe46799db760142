use Rattle.std.proofs.Common.{◌≤◌, SomeIff, arith, subst}
use Rattle.weights.specs.declared.TheConstants.{MAX}
use Rattle.two_by_two.proofs.OddsTests.{cells-are, columns-few, first-row-fits}
use Rattle.two_by_two.proofs.odds_table.weigh_all.Goals as goal

pub weigh_cells-requires-clause-level : goal.weigh_cells-requires-clause-level
weigh_cells-requires-clause-level c = rw (c.column_sums-columns.ensures, c.row_sums.ensures) (first-row-fits c.args.fisher.now c.requires.square)

pub weigh_cells-requires-clause-units : goal.weigh_cells-requires-clause-units
weigh_cells-requires-clause-units c = rw c.column_sums-columns.ensures (omega (arith, columns-few c.args.fisher.now c.requires.square c.facts.ensures.fitting))

pub returns : goal.returns
returns c =
    let given = rw (c.column_sums-columns.ensures, c.row_sums.ensures) at c.weigh_cells.ensures in
    subst (λ n. SomeIff c.weigh_cells.result (n ≤ MAX) n) (cells-are c.args.fisher.now c.requires.square c.args.odds) given
