-- The words that tell a fault, and where it is.
use Rattle.std.specs.Prelude.{ℕ, List, ◌++◌, Bool, true, false, Option, Some, None, codes}
use Rattle.std.specs.Fmt.{decimal}
use Rattle.record_reader.specs.declared.faults.Kind.{Kind}
use Rattle.record_reader.specs.declared.faults.Kind.TheVariants as kind

-- the words that tell a kind of fault
abbrev pub kind_text : Kind → List ℕ
kind_text kind.NoHeader = codes "no header"
kind_text kind.FieldCount = codes "field count"
kind_text kind.NotNumber = codes "not a number"
kind_text kind.OutOfRange = codes "out of range"
kind_text kind.Missing = codes "missing"
kind_text kind.GroupTooMany = codes "a group too many"
kind_text kind.EndsEarly = codes "ends too early"
kind_text kind.TooManyRows = codes "too many rows"
kind_text kind.NotBinary = codes "not 0 or 1"
kind_text kind.TooManyColumns = codes "too many columns"
kind_text kind.NotCount = codes "not a count"

-- whether a fault of this kind is one of a single field
abbrev pub has_field : Kind → Bool
has_field kind.NoHeader = false
has_field kind.FieldCount = false
has_field kind.NotNumber = true
has_field kind.OutOfRange = true
has_field kind.Missing = true
has_field kind.GroupTooMany = true
has_field kind.EndsEarly = false
has_field kind.TooManyRows = false
has_field kind.NotBinary = true
has_field kind.TooManyColumns = false
has_field kind.NotCount = true

-- the words that tell where a fault is: in a row, or in one of its fields
abbrev pub place_text : ℕ → Option ℕ → List ℕ
place_text row None = codes "row " ++ decimal row
place_text row (Some field) = codes "row " ++ decimal row ++ codes " field " ++ decimal field
