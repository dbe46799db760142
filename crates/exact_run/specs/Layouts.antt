-- What is said of the rows of a layout beside its data: how many are left out, and why the data are
-- refused.
use Rattle.std.specs.Prelude.{ℕ, List, Option, Some, None}
use Rattle.record_reader.specs.declared.faults.LayoutFault.{LayoutFault}
use Rattle.record_reader.specs.declared.faults.LayoutFault.TheVariants as layout
use Rattle.record_reader.specs.declared.missing.Missing.{Missing}
use Rattle.record_reader.specs.declared.missing.Missing.TheVariants.{Drop, Refuse}
use Rattle.record_reader.specs.declared.picks.Picks.{Picks}
use Rattle.sample_reader.specs.Dropped.{dropped_of}
use Rattle.sample_reader.specs.declared.layout.Layout.{Layout}
use Rattle.settings.specs.declared.names.OptionName.TheVariants as option
use Rattle.settings.specs.declared.settings.Settings.{Settings}
use Rattle.report.specs.declared.refusals.Refusal.{Refusal}
use Rattle.report.specs.declared.refusals.Refusal.TheVariants as refusal

-- how many rows are left out, where those with a missing field are
abbrev pub dropped_by : Missing → Picks → Layout → List (List (List ℕ)) → Option ℕ
dropped_by Refuse picks layout rows = None
dropped_by Drop picks layout rows = Some (dropped_of layout picks rows)

abbrev pub dropped_told : Settings → Layout → List (List (List ℕ)) → Option ℕ
dropped_told settings = dropped_by settings.missing settings.picks

-- the refusal of a layout's fault
abbrev pub layout_refusal : LayoutFault → Refusal
layout_refusal layout.Columns = refusal.Unfit option.Columns
layout_refusal (layout.At fault) = refusal.Row fault
layout_refusal layout.NoMemory = refusal.NoMemory
