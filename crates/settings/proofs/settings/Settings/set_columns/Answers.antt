use Rattle.std.proofs.Common.{List, ℕ}
use Rattle.record_reader.specs.declared.picks.Picks.TheVariants.{Listed}
use Rattle.settings.specs.Tests.{shape_of}
use Rattle.settings.specs.Values.{picked_columns}
use Rattle.settings.specs.declared.names.OptionName.TheVariants.{Columns}
use Rattle.settings.specs.declared.names.UsageFault.TheVariants.{Value}
use Rattle.settings.proofs.PutAs.{of_map, ok_map}
use Rattle.settings.proofs.settings.Settings.set_columns.Goals as goal

pub returns-in-Ok : goal.returns-in-Ok
returns-in-Ok c =
    let settings = c.args.self.now in
    ok_map (λ (columns : List ℕ). record settings { picks = Listed columns }) (Value Columns) (picked_columns (shape_of settings.test) c.args.text.now) c.in-Ok.columns (rw c.fields.ensures at c.in-Ok.ensures)

pub returns-in-Err : goal.returns-in-Err
returns-in-Err c =
    let settings = c.args.self.now in
    of_map (λ (columns : List ℕ). record settings { picks = Listed columns }) Columns (picked_columns (shape_of settings.test) c.args.text.now) c.in-Err.fault (rw c.fields.ensures at c.in-Err.ensures)
