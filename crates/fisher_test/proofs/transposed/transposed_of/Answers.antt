use Rattle.std.proofs.Common.{◌≡◌, ◌∙◌, sym, subst, arith}
use Rattle.table_reader.specs.TableLayout.{TableData}
use Rattle.fisher_test.specs.Transposed.{AreTransposed, transposed_data}
use Rattle.fisher_test.proofs.TransposedCells.{are-transposed}
use Rattle.fisher_test.proofs.TransposedParts.{not-square}
use Rattle.fisher_test.proofs.transposed.transposed_of.Goals as goal

pub returns-in-Ok : goal.returns-in-Ok
returns-in-Ok c =
    let t : TableData = c.args.table.now in
    let problem : c.in-Ok.problem ≡ transposed_data t = c.in-Ok.ensures.0 ∙ c.in_ok-transposed.ensures in
    record {
      transposed = subst (AreTransposed t) (sym problem) (are-transposed t);
      shape = not-square t (omega (arith, c.if-rows-columns.false, c.rows.ensures, c.columns.ensures));
    }
