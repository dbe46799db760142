-- The fields of samples: values, binary values and labels.
use Rattle.std.specs.Prelude.{◌≡◌, ◌⊎◌, ℕ, ◌==◌, Bool, ℤ, pos, List, length, codes, bytes_eq, Result, Ok, Err, if◌then◌else◌}
use Rattle.number_text.specs.declared.NumberFault.{NumberFault}
use Rattle.number_text.specs.declared.NumberFault.TheVariants as number
use Rattle.number_text.specs.NumberTexts.{is_missing, value_of}
use Rattle.number_text.specs.Trimmed.{trimmed}
use Rattle.record_reader.specs.declared.faults.Kind.{Kind}
use Rattle.record_reader.specs.declared.faults.Kind.TheVariants.{Missing, NotNumber, OutOfRange, NotBinary}
use Rattle.weights.specs.Results.{with_fault}

-- the kind of a number text's fault
abbrev pub kind_of : NumberFault → Kind
kind_of number.Missing = Missing
kind_of number.NotNumber = NotNumber
kind_of number.OutOfRange = OutOfRange

-- whether a value is missing: it is empty or NA
abbrev pub is_missing_value : List ℕ → Bool
is_missing_value text = is_missing (trimmed text)

-- whether a label is missing: it is empty
abbrev pub is_missing_label : List ℕ → Bool
is_missing_label text = length (trimmed text) == 0

-- the value of a field, in units of 10^-18
abbrev pub value_in : List ℕ → Result ℤ Kind
value_in text = with_fault kind_of (value_of text)

-- the number of a field that is 0 or 1
abbrev pub binary_in : List ℕ → Result ℤ Kind
binary_in text =
    if is_missing_value text then Err Missing
    else if bytes_eq (trimmed text) (codes "0") then Ok (pos 0)
    else if bytes_eq (trimmed text) (codes "1") then Ok (pos 1)
    else Err NotBinary

-- the number is 0 or 1
abbrev pub IsBinary : ℤ → Type 0
IsBinary number = (number ≡ pos 0) ⊎ (number ≡ pos 1)

-- the label of a field
abbrev pub label_in : List ℕ → Result (List ℕ) Kind
label_in text = if is_missing_label text then Err Missing else Ok (trimmed text)
