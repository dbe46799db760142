-- Answers of functions that may run out of memory.
use Rattle.std.specs.Prelude.{ℕ, ◌≡◌, ⊤, Result, Ok, Err}
use Rattle.record_reader.specs.declared.faults.Kind.{Kind}
use Rattle.record_reader.specs.declared.faults.LayoutFault.{LayoutFault}
use Rattle.record_reader.specs.declared.faults.LayoutFault.TheVariants.{Columns, At, NoMemory}
use Rattle.record_reader.specs.declared.layouts.FieldFault.{FieldFault}
use Rattle.record_reader.specs.declared.layouts.FieldFault.TheVariants as field
use Rattle.record_reader.specs.Layouts.{field_fault}

-- a fault is the wanted one, or want of memory
abbrev pub IsFaultOf : {S : Type 0} → Result S LayoutFault → LayoutFault → Type 0
IsFaultOf wanted Columns = wanted ≡ Err Columns
IsFaultOf wanted (At fault) = wanted ≡ Err (At fault)
IsFaultOf wanted NoMemory = ⊤

-- an answer is the wanted one, where memory does not run out
abbrev pub IsAnswer : {S : Type 0} → Result S LayoutFault → Result S LayoutFault → Type 0
IsAnswer wanted (Ok value) = wanted ≡ Ok value
IsAnswer wanted (Err fault) = IsFaultOf wanted fault

-- an answer for one field is the wanted one, where memory does not run out
abbrev pub IsFieldAnswer : {S : Type 0} → Result S Kind → Result S FieldFault → Type 0
IsFieldAnswer wanted (Ok value) = wanted ≡ Ok value
IsFieldAnswer wanted (Err (field.Text kind)) = wanted ≡ Err kind
IsFieldAnswer wanted (Err field.NoMemory) = ⊤

-- why a field of a row is not read
abbrev pub fault_at : ℕ → ℕ → FieldFault → LayoutFault
fault_at row number (field.Text kind) = field_fault row number kind
fault_at row number field.NoMemory = NoMemory
