-- The cells of a file of binary blocks are 0 and 1.
use Rattle.std.proofs.Common.{◌≡◌, inl, inr, ℕ, ◌+◌, Bool, true, false, cond, ℤ, pos, List, [], ◌∷◌, ◌++◌, length, bytes_eq, codes, Ok, Err, sym, subst, arith}
use Rattle.std.specs.List.{All}
use Rattle.std.proofs.lemmas.List.Elements.{All-push}
use Rattle.number_text.specs.NumberTexts.{is_missing}
use Rattle.number_text.specs.Trimmed.{trimmed}
use Rattle.record_reader.specs.declared.faults.Kind.TheVariants as kind
use Rattle.record_reader.specs.declared.missing.Missing.{Missing}
use Rattle.record_reader.specs.declared.picks.Picks.{Picks}
use Rattle.sample_reader.specs.CellLayouts.{BlockData, binary_blocks_in, block_layout, blocked}
use Rattle.record_reader.specs.Layouts.{dropped_rows, field_fault, read_in, text_of, with_fields}
use Rattle.sample_reader.specs.Values.{IsBinary, binary_in}
use Rattle.record_reader.proofs.LayoutLemmas.{and_then-ok, read_in-ok, with_fault-ok, with_rows-keep, with_value-ok}

by_tests : (missing zero one : Bool) (n : ℤ) → cond missing (Err kind.Missing) (cond zero (Ok (pos 0)) (cond one (Ok (pos 1)) (Err kind.NotBinary))) ≡ Ok n → IsBinary n
by_tests true zero one n e = absurd (cc)
by_tests false true one n e = let k : pos 0 ≡ n = cc in inl (sym k)
by_tests false false true n e = let k : pos 1 ≡ n = cc in inr (sym k)
by_tests false false false n e = absurd (cc)

binary : (text : List ℕ) (n : ℤ) → binary_in text ≡ Ok n → IsBinary n
binary text n e = by_tests (is_missing (trimmed text)) (bytes_eq (trimmed text) (codes "0")) (bytes_eq (trimmed text) (codes "1")) n e

one_row : (number place : ℕ) (fields : List ℕ) (row : List (List ℕ)) (s t : List ℤ) → All IsBinary s → with_fields (block_layout binary_in) number row place fields s ≡ Ok t → All IsBinary t
one_row number place [] row s t all e = let same : s ≡ t = cc in rw (← same) all
one_row number place (field ∷ fields) row s t all e =
    let first = and_then-ok (with_fields (block_layout binary_in) number row (place + 1) fields) _ t e in
    let cell = with_value-ok (λ cell. s ++ cell ∷ []) (binary_in (text_of row field)) first.0 (with_fault-ok (field_fault number field) _ first.0 first.1) in
    let more : All IsBinary first.0 = rw (← cell.2) (All-push IsBinary s cell.0 all (binary (text_of row field) cell.0 cell.1)) in
    one_row number (place + 1) fields row first.0 t more first.2

no_cell : All IsBinary []
no_cell k d within = absurd (omega arith)

read_in-binary : (missing : Missing) (picks : Picks) (rows : List (List (List ℕ))) (cells : List ℤ) → read_in (block_layout binary_in) missing picks rows ≡ Ok cells → All IsBinary cells
read_in-binary missing picks rows cells e =
    let read = read_in-ok (block_layout binary_in) missing picks rows cells e in
    let kept = with_rows-keep (block_layout binary_in) missing (length read.1.header) read.0 (λ _ cells. All IsBinary cells) (λ number n row s t all e. one_row number 0 read.0 row s t all e)
    2 0 read.1.rest [] cells (omega arith) no_cell read.1.rows_say in
    kept.holds

pub cells-binary : (missing : Missing) (picks : Picks) (rows : List (List (List ℕ))) (blocks : BlockData) → binary_blocks_in missing picks rows ≡ Ok blocks → All IsBinary blocks.cells
cells-binary missing picks rows blocks e =
    let cells = with_value-ok (blocked (dropped_rows (block_layout binary_in) missing picks rows) picks rows) (read_in (block_layout binary_in) missing picks rows) blocks e in
    subst (λ blocks. All IsBinary blocks.cells) cells.2 (read_in-binary missing picks rows cells.0 cells.1)
