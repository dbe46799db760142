-- The line of each refusal.
use Rattle.std.specs.Prelude.{ℕ, List, ◌++◌, codes, decimal, Some, None, if◌then◌else◌}
use Rattle.weights.specs.declared.wide.WideOf.{WideOf}
use Rattle.weights.specs.declared.wide.WideOf.TheVariants as wide
use Rattle.record_reader.specs.Faults.{has_field, kind_text, place_text}
use Rattle.record_reader.specs.declared.faults.DataFault.{DataFault}
use Rattle.settings.specs.Names.{option_word, test_word}
use Rattle.settings.specs.declared.names.OptionName.{OptionName}
use Rattle.settings.specs.declared.names.OptionName.TheVariants as option
use Rattle.settings.specs.declared.names.UsageFault.{UsageFault}
use Rattle.settings.specs.declared.names.UsageFault.TheVariants as usage
use Rattle.report.specs.Report.{line}
use Rattle.report.specs.declared.refusals.Refusal.{Refusal}
use Rattle.report.specs.declared.refusals.Refusal.TheVariants as refusal

-- an option as it is written, and the word TEST as it is
abbrev pub option_text : OptionName → List ℕ
option_text option.Test = option_word option.Test
option_text name = codes "--" ++ option_word name

-- what is wrong with the words
abbrev pub usage_text : UsageFault → List ℕ
usage_text usage.Form = codes "command line"
usage_text (usage.Value name) = codes "value of " ++ option_text name
usage_text (usage.Pairing name test) = option_text name ++ codes " with " ++ test_word test
usage_text usage.NoMemory = codes "no memory"

-- where a fault of the data is, and what is wrong there
abbrev pub fault_text : DataFault → List ℕ
fault_text fault =
    place_text fault.row (if has_field fault.kind then Some fault.field else None)
    ++ codes ": " ++ kind_text fault.kind

-- the number of a test that is too wide
abbrev pub wide_word : WideOf → List ℕ
wide_word wide.Total = codes "total"
wide_word wide.Statistic = codes "statistic"

-- why there is no report
abbrev pub refusal_text : Refusal → List ℕ
refusal_text (refusal.Usage fault) = usage_text fault
refusal_text (refusal.Unfit name) = option_text name ++ codes " does not fit the data"
refusal_text (refusal.Row fault) = fault_text fault
refusal_text refusal.TooLong = codes "file longer than 1048576 bytes"
refusal_text (refusal.TooWide number) = codes "too wide: " ++ wide_word number
refusal_text (refusal.PieceLine number) = codes "piece line " ++ decimal number
refusal_text (refusal.Foreign piece) = codes "foreign piece " ++ decimal piece
refusal_text (refusal.Doubled piece) = codes "doubled piece " ++ decimal piece
refusal_text (refusal.MissingPart part) = codes "missing part " ++ decimal part
refusal_text (refusal.Unequal piece) = codes "unequal piece " ++ decimal piece
refusal_text refusal.ReadFault = codes "read fault"
refusal_text refusal.WriteFault = codes "write fault"
refusal_text refusal.NoMemory = codes "no memory"

-- the line that says so
abbrev pub refusal_line_text : Refusal → List ℕ
refusal_line_text cause = line (codes "refused: " ++ refusal_text cause)
