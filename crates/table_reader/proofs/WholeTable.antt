-- The counts of a file that is read make a table.
use Rattle.std.proofs.Common.{◌≡◌, ℕ, ◌==◌, ◌+◌, ◌*◌, ◌/◌, ◌<◌, ◌≤◌, Bool, true, false, List, [], ◌∷◌, length, Ok, refl, sym, ap, ◌∙◌, arith}
use Rattle.std.proofs.Math.Nat.{mul-div_cancel_left}
use Rattle.std.proofs.lemmas.Bool.{cond-false}
use Rattle.std.proofs.lemmas.Bool.Decides.{nat_tests}
use Rattle.std.proofs.lemmas.List.{length_push}
use Rattle.record_reader.specs.declared.layouts.Shape.{Shape}
use Rattle.record_reader.specs.declared.missing.Missing.TheVariants.{Refuse}
use Rattle.record_reader.specs.declared.picks.Picks.{Picks}
use Rattle.record_reader.specs.Layouts.{MayPick, field_fault, read_in, text_of, with_fields}
use Rattle.record_reader.proofs.LayoutLemmas.{IsRead, and_then-ok, picked-many, read_in-ok, with_fault-ok, with_rows-keep, with_value-ok}
use Rattle.table_reader.proofs.Places.{behind_first}
use Rattle.table_reader.specs.Counts.{count_in}
use Rattle.table_reader.specs.Kept.{HasShape}
use Rattle.table_reader.specs.TableLayout.{RowCounts, no_rows, table_layout, table_shape, tabled, with_cell}

-- either kind of table has at least two columns
pub at_least_two : (two_by_two : Bool) → (table_shape two_by_two).narrowest ≡ 2
at_least_two true = refl
at_least_two false = refl

module _ (shape : Shape) where
  -- fields behind the first one of a row add their counts and no row
  more_fields : (number place : ℕ) (fields : List ℕ) (row : List (List ℕ)) (s t : RowCounts) → 1 ≤ place → with_fields (table_layout shape) number row place fields s ≡ Ok t
      → (t.rows ≡ s.rows) × (length t.cells ≡ length s.cells + length fields)
  more_fields number place [] row s t behind e = let same : s ≡ t = cc in rw (← same) (omega arith, omega arith)
  more_fields number place (field ∷ fields) row s t behind e =
      let first = and_then-ok (with_fields (table_layout shape) number row (place + 1) fields) _ t e in
      let cell = with_value-ok (with_cell place s) (count_in (text_of row field)) first.0 (with_fault-ok (field_fault number field) _ first.0 first.1) in
      let one : length first.0.cells ≡ length s.cells + 1 = sym (ap (λ t. length t.cells) cell.2) ∙ length_push s.cells cell.0 in
      let as_many : first.0.rows ≡ s.rows = sym (ap (λ t. t.rows) cell.2) ∙ cond-false (place == 0) (s.rows + 1) s.rows (behind_first place behind) in
      let rest = more_fields number (place + 1) fields row first.0 t (omega (arith, behind)) first.2 in
      (omega (arith, as_many, rest.0), omega (arith, one, rest.1))

  one_row : (number : ℕ) (fields : List ℕ) (row : List (List ℕ)) (s t : RowCounts) → 0 < length fields → with_fields (table_layout shape) number row 0 fields s ≡ Ok t
      → (t.rows ≡ s.rows + 1) × (length t.cells ≡ length s.cells + length fields)
  one_row number [] row s t some e = absurd (omega (arith, some))
  one_row number (field ∷ fields) row s t some e =
      let first = and_then-ok (with_fields (table_layout shape) number row 1 fields) _ t e in
      let cell = with_value-ok (with_cell 0 s) (count_in (text_of row field)) first.0 (with_fault-ok (field_fault number field) _ first.0 first.1) in
      let one : length first.0.cells ≡ length s.cells + 1 = sym (ap (λ t. length t.cells) cell.2) ∙ length_push s.cells cell.0 in
      let one_more : first.0.rows ≡ s.rows + 1 = sym (ap (λ t. t.rows) cell.2) in
      let rest = more_fields number 1 fields row first.0 t (omega arith) first.2 in
      (omega (arith, one_more, rest.0), omega (arith, one, rest.1))

  more_rows : (rows width many more : ℕ) → many ≡ rows * width → more ≡ many + width → more ≡ (rows + 1) * width
  more_rows rows width many more e f = grind arith

  divided : (many rows width : ℕ) → 2 ≤ rows → many ≡ rows * width → many / rows ≡ width
  divided many rows width some e = rw e (mul-div_cancel_left width (omega (arith, some)))

  same_product : (n rows width many : ℕ) → rows ≡ n → many ≡ n * width → many ≡ rows * width
  same_product n rows width many e f = rw e f

  whole : (picks : Picks) (rows : List (List (List ℕ))) (table : RowCounts) (fields : List ℕ) → shape.narrowest ≡ 2 → MayPick shape.narrowest shape.widest picks
      → IsRead (table_layout shape) Refuse picks rows table fields → HasShape shape (tabled table)
  whole picks rows table fields two may read =
      let many = picked-many shape picks (length read.header) fields may read.fields_are in
      let some : 2 ≤ length fields = omega (arith, two, many.0) in
      let Holds : ℕ → RowCounts → Type 0 = λ n table. (table.rows ≡ n) × (length table.cells ≡ n * length fields) in
      let kept = with_rows-keep (table_layout shape) Refuse (length read.header) fields Holds
      (λ number n row s t have e. let more = one_row number fields row s t (omega (arith, some)) e in
      (omega (arith, have.0, more.0), more_rows n (length fields) (length s.cells) (length t.cells) have.1 more.1))
      2 0 read.rest no_rows table (omega arith) (omega arith, omega arith) read.rows_say in
      let as_many : table.rows ≡ kept.kept = omega (arith, kept.holds.0) in
      let each : length table.cells ≡ table.rows * length fields = same_product (0 + kept.kept) table.rows (length fields) (length table.cells) kept.holds.0 kept.holds.1 in
      let rows_two : 2 ≤ table.rows = let test = read.enough in grind (arith, nat_tests) in
      let wide = divided (length table.cells) table.rows (length fields) rows_two each in
      record {
        two_rows = rows_two;
        few_rows = omega (arith, as_many, kept.few, kept.all);
        two_columns = omega (arith, wide, some);
        few_columns = omega (arith, wide, many.1);
        one_each = rw wide each;
      }

  pub read_in-whole : (picks : Picks) (rows : List (List (List ℕ))) (table : RowCounts) → shape.narrowest ≡ 2 → MayPick shape.narrowest shape.widest picks
      → read_in (table_layout shape) Refuse picks rows ≡ Ok table → HasShape shape (tabled table)
  read_in-whole picks rows table two may e = let read = read_in-ok (table_layout shape) Refuse picks rows table e in whole picks rows table read.0 two may read.1
