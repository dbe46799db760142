use Rattle.std.proofs.Common.{List, ℕ}
use Rattle.std.specs.Prelude.{Contains}
use Rattle.std.proofs.lemmas.List.Elements.{All-contains, All-from_recursion}
use Rattle.weights.specs.Grouped.{tables}
use Rattle.weights.proofs.Tables.{IsTable, tables-each}
use Rattle.transposed_tables.proofs.Bijection.{transposed-back, transposing}
use Rattle.transposed_tables.proofs.Weighed.{compared-transposed, weights-transposed}
use Rattle.transposed_tables.proofs.laws.transposed_weights.Goals as goal

listed : (columns rows : List ℕ) (table : List (List ℕ)) → Contains (tables columns rows) table → IsTable columns rows table
listed columns rows table member = All-contains (IsTable columns rows) (tables columns rows) table (All-from_recursion (IsTable columns rows) (tables columns rows) (tables-each columns rows)) member

pub returns-clause-transposing : goal.returns-clause-transposing
returns-clause-transposing c columns rows level f = transposing columns rows level f

pub returns-clause-back : goal.returns-clause-back
returns-clause-back c columns rows table level member = transposed-back columns rows level table (listed columns rows table member)

pub returns-clause-weights : goal.returns-clause-weights
returns-clause-weights c columns rows table level member = weights-transposed columns rows table level (listed columns rows table member)

pub returns-clause-compared : goal.returns-clause-compared
returns-clause-compared c columns rows table other level member another =
    compared-transposed columns rows table other level (listed columns rows table member) (listed columns rows other another)
