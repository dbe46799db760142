-- The cells of a file that is read make blocks.
use Rattle.std.proofs.Common.{◌≡◌, ℕ, ◌+◌, ◌-◌, ◌*◌, ◌<◌, ◌≤◌, nat_lt, ℤ, List, [], ◌∷◌, ◌++◌, length, Result, Ok, sym, ap, ◌∙◌, arith, zero-add}
use Rattle.std.specs.List.{list_any, range_with_len}
use Rattle.std.proofs.lemmas.Bool.Decides.{nat_tests}
use Rattle.std.proofs.lemmas.List.{length_push}
use Rattle.std.proofs.lemmas.List.FromFn.{length-range_with_len}
use Rattle.record_reader.specs.declared.faults.Kind.{Kind}
use Rattle.record_reader.specs.declared.missing.Missing.{Missing}
use Rattle.record_reader.specs.declared.picks.Picks.{Picks}
use Rattle.record_reader.specs.declared.picks.Picks.TheVariants.{Natural, Listed}
use Rattle.record_reader.specs.declared.layouts.Shape.{Shape}
use Rattle.record_reader.specs.declared.TheConstants.{MOST_ROWS}
use Rattle.sample_reader.specs.CellLayouts.{block_layout, block_shape, width_in}
use Rattle.sample_reader.specs.Kept.{AreWholeBlocks}
use Rattle.record_reader.specs.Layouts.{MayPick, dropped_rows, field_fault, picked, read_in, text_of, with_fields}
use Rattle.record_reader.proofs.LayoutLemmas.{IsRead, and_then-ok, dropped-read, picked-many, read_in-ok, unless_ok, with_fault-ok, with_rows-keep, with_value-ok}

picked-width : (shape : Shape) (picks : Picks) (header : List (List ℕ)) (rest : List (List (List ℕ))) (fields : List ℕ) → picked shape picks (length header) ≡ Ok fields
    → width_in picks (header ∷ rest) ≡ length fields
picked-width shape Natural header rest fields e =
    let wide = unless_ok (nat_lt (length header) shape.narrowest) _ _ fields e in
    let narrow = unless_ok (nat_lt shape.widest (length header)) _ _ fields wide.1 in
    let same : range_with_len 1 (length header) ≡ fields = let k = narrow.1 in cc in
    sym (length-range_with_len 1 (length header)) ∙ ap length same
picked-width shape (Listed listed) header rest fields e =
    let all = unless_ok (list_any (λ field. nat_lt (length header) field) listed) _ _ fields e in
    let same : listed ≡ fields = let k = all.1 in cc in
    ap length same

-- so many blocks that are kept, each with so many cells
are_blocks : (blocks treatments kept width : ℕ) (cells : List ℤ) → blocks ≡ kept → treatments ≡ width → 1 ≤ kept → kept ≤ MOST_ROWS → 2 ≤ width → width ≤ 8 → length cells ≡ kept * width
    → AreWholeBlocks blocks treatments cells
are_blocks blocks treatments kept width cells as_many as_wide some few two eight each = record {
  not_empty = omega arith;
  few_enough = omega arith;
  at_least_two = omega arith;
  at_most_eight = omega arith;
  one_each = rw (as_many, as_wide) each;
}

module _ (cell_in : List ℕ → Result ℤ Kind) (missing : Missing) where
  one_row : (number place : ℕ) (fields : List ℕ) (row : List (List ℕ)) (s t : List ℤ) → with_fields (block_layout cell_in) number row place fields s ≡ Ok t → length t ≡ length s + length fields
  one_row number place [] row s t e = let same : s ≡ t = cc in rw same (omega arith)
  one_row number place (field ∷ fields) row s t e =
      let first = and_then-ok (with_fields (block_layout cell_in) number row (place + 1) fields) _ t e in
      let cell = with_value-ok (λ cell. s ++ cell ∷ []) (cell_in (text_of row field)) first.0 (with_fault-ok (field_fault number field) _ first.0 first.1) in
      let one : length first.0 ≡ length s + 1 = sym (ap length cell.2) ∙ length_push s cell.0 in
      let rest = one_row number (place + 1) fields row first.0 t first.2 in
      omega (arith, one, rest)

  by_rows : (rows width many : ℕ) → 0 < many → many ≡ rows * width → 1 ≤ rows
  by_rows rows width many some e = grind arith

  more_rows : (rows width many more : ℕ) → many ≡ rows * width → more ≡ many + width → more ≡ (rows + 1) * width
  more_rows rows width many more e f = grind arith

  whole : (picks : Picks) (rows : List (List (List ℕ))) (cells : List ℤ) (fields : List ℕ) → MayPick 2 8 picks
      → IsRead (block_layout cell_in) missing picks rows cells fields
      → (dropped_rows (block_layout cell_in) missing picks rows ≤ length rows - 1) × AreWholeBlocks (length rows - 1 - dropped_rows (block_layout cell_in) missing picks rows) (width_in picks rows) cells
  whole picks rows cells fields may read =
      let layout = block_layout cell_in in
      let many = picked-many block_shape picks (length read.header) fields may read.fields_are in
      let width : width_in picks rows ≡ length fields = ap (width_in picks) read.rows_are ∙ picked-width block_shape picks read.header read.rest fields read.fields_are in
      let Holds : ℕ → List ℤ → Type 0 = λ n cells. length cells ≡ n * length fields in
      let kept = with_rows-keep layout missing (length read.header) fields Holds
      (λ number n row s t have e. more_rows n (length fields) (length s) (length t) have (one_row number 0 fields row s t e))
      2 0 read.rest [] cells (omega arith) (omega arith) read.rows_say in
      let below : length rows - 1 ≡ length read.rest = ap (λ rows. length rows - 1) read.rows_are ∙ omega arith in
      let dropped = dropped-read layout missing picks rows cells fields read in
      let left : length rows - 1 - dropped_rows layout missing picks rows ≡ kept.kept = omega (arith, below, dropped, kept.all) in
      let some : 0 < length cells = let test = read.enough in grind (arith, nat_tests) in
      let each : length cells ≡ kept.kept * length fields = rw (← zero-add kept.kept) kept.holds in (
        omega (arith, below, dropped, kept.all),
        are_blocks (length rows - 1 - dropped_rows layout missing picks rows) (width_in picks rows) kept.kept (length fields) cells left width (by_rows kept.kept (length fields) (length cells) some each)
            (omega (arith, kept.few, kept.all)) many.0 many.1 each,
      )

  pub read_in-whole : (picks : Picks) (rows : List (List (List ℕ))) (cells : List ℤ) → MayPick 2 8 picks
      → read_in (block_layout cell_in) missing picks rows ≡ Ok cells
      → (dropped_rows (block_layout cell_in) missing picks rows ≤ length rows - 1) × AreWholeBlocks (length rows - 1 - dropped_rows (block_layout cell_in) missing picks rows) (width_in picks rows) cells
  read_in-whole picks rows cells may e = let read = read_in-ok (block_layout cell_in) missing picks rows cells e in whole picks rows cells read.0 may read.1
