-- The data of a file in a layout, or the first fault of the file.
--
-- A file is a list of rows, a row is a list of fields, and a field is a list of bytes. The first
-- row is the header, of which
-- only the width counts. Rows and fields have numbers from 1, so the first row of data is row 2.
use Rattle.std.specs.Prelude.{ℕ, ◌+◌, ◌-◌, ◌≤◌, ◌≢◌, ⊤, Bool, false, ◌&&◌, ◌||◌, nat_le, nat_lt, ◌==◌, List, [], ◌∷◌, length, All, AllPairs, slice_index_or, Result, Ok, Err, if◌then◌else◌}
use Rattle.std.specs.List.{list_any, range_with_len}
use Rattle.weights.specs.Results.{and_then, with_fault}
use Rattle.record_reader.specs.declared.faults.Kind.{Kind}
use Rattle.record_reader.specs.declared.faults.Kind.TheVariants.{NoHeader, FieldCount, EndsEarly, TooManyRows}
use Rattle.record_reader.specs.declared.faults.LayoutFault.{LayoutFault}
use Rattle.record_reader.specs.declared.faults.LayoutFault.TheVariants.{Columns, At}
use Rattle.record_reader.specs.declared.missing.Missing.{Missing}
use Rattle.record_reader.specs.declared.missing.Missing.TheVariants.{Refuse, Drop}
use Rattle.record_reader.specs.declared.picks.Picks.{Picks}
use Rattle.record_reader.specs.declared.picks.Picks.TheVariants.{Natural, Listed}
use Rattle.record_reader.specs.declared.layouts.Shape.{Shape}

-- A layout: its shape, and how the fields of its rows are read, one after the other. What is known
-- so far is a value of the type S.
pub record Layout (S : Type 0) : Type 0 where
  pub shape : Shape
  -- what is known before the first field
  pub start : S
  -- what is known after a field, by its place among the picked fields of its row, from 0, and its
  -- text; or what is wrong with it
  pub with_field : ℕ → List ℕ → S → Result S Kind
  -- whether a field is missing, by its place and its text
  pub is_missing : ℕ → List ℕ → Bool
  -- whether what is known after the last row is enough
  pub is_enough : S → Bool

-- ---- places

-- a fault of a whole row
abbrev pub row_fault : ℕ → Kind → LayoutFault
row_fault row kind = At (record { row = row; field = 0; kind = kind })

-- a fault of one field of a row
abbrev pub field_fault : ℕ → ℕ → Kind → LayoutFault
field_fault row field kind = At (record { row = row; field = field; kind = kind })

-- the row of this number
abbrev pub row_of : List (List (List ℕ)) → ℕ → List (List ℕ)
row_of rows number = slice_index_or rows (number - 1) []

-- the text of the field of this number
abbrev pub text_of : List (List ℕ) → ℕ → List ℕ
text_of row number = slice_index_or row (number - 1) []

-- ---- the header

-- Listed fields are at least and at most so many, each from 1, and distinct.
pub record MayList (narrowest widest : ℕ) (fields : List ℕ) : Type 0 where
  pub wide_enough : narrowest ≤ length fields
  pub narrow_enough : length fields ≤ widest
  pub from_one : All (λ field. 1 ≤ field) fields
  pub distinct : AllPairs ◌≢◌ fields

-- the fields as they stand, or fields that may be listed
abbrev pub MayPick : ℕ → ℕ → Picks → Type 0
MayPick narrowest widest Natural = ⊤
MayPick narrowest widest (Listed fields) = MayList narrowest widest fields

-- numbers of fields of a row that is this wide
abbrev pub AreFields : ℕ → List ℕ → Type 0
AreFields width fields = All (λ field. (1 ≤ field) × (field ≤ width)) fields

-- the numbers of the picked fields of a row that is this wide
abbrev pub fields_of : Picks → ℕ → List ℕ
fields_of Natural width = range_with_len 1 width
fields_of (Listed fields) width = fields

-- the numbers of the picked fields, where the header is this wide, or the fault of the header
abbrev pub picked : Shape → Picks → ℕ → Result (List ℕ) LayoutFault
picked shape Natural width =
    if nat_lt width shape.narrowest then Err (row_fault 1 FieldCount)
    else if nat_lt shape.widest width then Err (row_fault 1 shape.too_wide)
    else Ok (range_with_len 1 width)
picked shape (Listed fields) width =
    if list_any (λ field. nat_lt width field) fields then Err Columns else Ok fields

-- ---- dropped rows

-- whether one of these picked fields of a row, of which the first has this place, is missing
abbrev pub has_missing : {S : Type 0} → Layout S → List (List ℕ) → ℕ → List ℕ → Bool
has_missing layout row place [] = false
has_missing layout row place (field ∷ fields) =
    layout.is_missing place (text_of row field) || has_missing layout row (place + 1) fields

-- whether a row is dropped: it is not one too many, it is as wide as the header, and one of its
-- picked fields is missing
abbrev pub is_dropped : {S : Type 0} → Layout S → Missing → ℕ → List ℕ → ℕ → List (List ℕ)
    → Bool
is_dropped layout Refuse width fields number row = false
is_dropped layout Drop width fields number row =
    nat_le number (layout.shape.most_rows + 1) && (length row == width
    && has_missing layout row 0 fields)

-- how many of these rows, of which the first has this number, are dropped
abbrev pub dropped_among : {S : Type 0} → Layout S → Missing → ℕ → List ℕ → ℕ
    → List (List (List ℕ)) → ℕ
dropped_among layout missing width fields number [] = 0
dropped_among layout missing width fields number (row ∷ rows) =
    (if is_dropped layout missing width fields number row then 1 else 0)
    + dropped_among layout missing width fields (number + 1) rows

-- ---- the rows

-- what is known after these picked fields of a row, of which the first has this place
abbrev pub with_fields : {S : Type 0} → Layout S → ℕ → List (List ℕ) → ℕ → List ℕ → S
    → Result S LayoutFault
with_fields layout number row place [] so_far = Ok so_far
with_fields layout number row place (field ∷ fields) so_far =
    and_then (with_fields layout number row (place + 1) fields)
    (with_fault (field_fault number field) (layout.with_field place (text_of row field) so_far))

-- what is known after a row that is not dropped: it is not one too many, it is as wide as the
-- header, and then its picked fields are read
abbrev pub with_kept : {S : Type 0} → Layout S → ℕ → List ℕ → ℕ → List (List ℕ) → S
    → Result S LayoutFault
with_kept layout width fields number row so_far =
    if nat_lt (layout.shape.most_rows + 1) number then Err (row_fault number TooManyRows)
    else if length row == width then with_fields layout number row 0 fields so_far
    else Err (row_fault number FieldCount)

-- what is known after a row: a dropped one leaves it as it was
abbrev pub with_row : {S : Type 0} → Layout S → Missing → ℕ → List ℕ → ℕ → List (List ℕ) → S
    → Result S LayoutFault
with_row layout missing width fields number row so_far =
    if is_dropped layout missing width fields number row then Ok so_far
    else with_kept layout width fields number row so_far

-- what is known after these rows, of which the first has this number
abbrev pub with_rows : {S : Type 0} → Layout S → Missing → ℕ → List ℕ → ℕ
    → List (List (List ℕ)) → S → Result S LayoutFault
with_rows layout missing width fields number [] so_far = Ok so_far
with_rows layout missing width fields number (row ∷ rows) so_far =
    and_then (with_rows layout missing width fields (number + 1) rows)
    (with_row layout missing width fields number row so_far)

-- what is known after all rows, where it is enough; the last row has this number
abbrev pub if_enough : {S : Type 0} → Layout S → ℕ → S → Result S LayoutFault
if_enough layout last so_far =
    if layout.is_enough so_far then Ok so_far else Err (row_fault last EndsEarly)

-- ---- the file

-- what is known of a file in a layout, or its first fault
abbrev pub read_in : {S : Type 0} → Layout S → Missing → Picks → List (List (List ℕ))
    → Result S LayoutFault
read_in layout missing picks [] = Err (row_fault 1 NoHeader)
read_in layout missing picks (header ∷ rows) =
    let width = length header in
    let of_rows = λ (fields : List ℕ). with_rows layout missing width fields 2 rows layout.start in
    and_then (if_enough layout (length rows + 1))
    (and_then of_rows (picked layout.shape picks width))

-- how many rows of data are dropped, by the picked fields or the fault of the header
abbrev pub dropped_below : {S : Type 0} → Layout S → Missing → ℕ → List (List (List ℕ))
    → Result (List ℕ) LayoutFault → ℕ
dropped_below layout missing width rows (Ok fields) =
    dropped_among layout missing width fields 2 rows
dropped_below layout missing width rows (Err fault) = 0

-- how many rows of a file are dropped: none where its header is at fault
abbrev pub dropped_rows : {S : Type 0} → Layout S → Missing → Picks → List (List (List ℕ)) → ℕ
dropped_rows layout missing picks [] = 0
dropped_rows layout missing picks (header ∷ rows) =
    let width = length header in
    dropped_below layout missing width rows (picked layout.shape picks width)
