use Rattle.std.proofs.lemmas.List.Elements.{All-contains, All-from_recursion}
use Rattle.weights.specs.Grouped.{tables}
use Rattle.weights.proofs.GroupingLaw.{grouping}
use Rattle.weights.proofs.Tables.{IsTable, tables-each, table_weight_is}
use Rattle.weights.proofs.grouping.grouping_law.Goals as goal

pub returns-clause-law : goal.returns-clause-law
returns-clause-law c columns rows e f = grouping columns rows f e

pub returns-clause-weight : goal.returns-clause-weight
returns-clause-weight c columns rows table e member =
    table_weight_is columns rows table e
    (All-contains (IsTable columns rows) (tables columns rows) table (All-from_recursion (IsTable columns rows) (tables columns rows) (tables-each columns rows)) member)
