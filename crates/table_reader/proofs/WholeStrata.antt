-- The counts of a file that is read make strata.
use Rattle.std.proofs.Common.{◌≡◌, ℕ, ◌==◌, ◌+◌, ◌*◌, ◌%◌, ◌<◌, ◌≤◌, List, [], ◌∷◌, ◌++◌, length, Ok, sym, ap, ◌∙◌, arith, zero-add}
use Rattle.std.proofs.lemmas.Bool.{cond-false}
use Rattle.std.proofs.lemmas.Bool.Decides.{nat_tests}
use Rattle.std.proofs.lemmas.List.{length_push}
use Rattle.record_reader.specs.declared.missing.Missing.TheVariants.{Refuse}
use Rattle.record_reader.specs.declared.picks.Picks.{Picks}
use Rattle.record_reader.specs.Layouts.{MayPick, field_fault, read_in, text_of, with_fields}
use Rattle.weights.specs.Results.{with_value}
use Rattle.record_reader.proofs.LayoutLemmas.{and_then-ok, picked-many, read_in-ok, with_fault-ok, with_rows-keep, with_value-ok}
use Rattle.table_reader.proofs.Places.{behind_first}
use Rattle.table_reader.specs.Counts.{count_in}
use Rattle.table_reader.specs.Kept.{AreWholeStrata}
use Rattle.table_reader.specs.StrataLayout.{strata_layout, strata_shape}

-- fields behind the name of a stratum add their counts
more_fields : (number place : ℕ) (fields : List ℕ) (row : List (List ℕ)) (s t : List ℕ) → 1 ≤ place → with_fields strata_layout number row place fields s ≡ Ok t
    → length t ≡ length s + length fields
more_fields number place [] row s t behind e = let same : s ≡ t = cc in rw (← same) (omega arith)
more_fields number place (field ∷ fields) row s t behind e =
    let first = and_then-ok (with_fields strata_layout number row (place + 1) fields) _ t e in
    let counted = with_value (λ count. s ++ count ∷ []) (count_in (text_of row field)) in
    let is_count = cond-false (place == 0) (Ok s) counted (behind_first place behind) in
    let cell = with_value-ok (λ count. s ++ count ∷ []) (count_in (text_of row field)) first.0 (sym is_count ∙ with_fault-ok (field_fault number field) _ first.0 first.1) in
    let one : length first.0 ≡ length s + 1 = sym (ap length cell.2) ∙ length_push s cell.0 in
    let rest = more_fields number (place + 1) fields row first.0 t (omega (arith, behind)) first.2 in
    omega (arith, one, rest)

one_row : (number : ℕ) (fields : List ℕ) (row : List (List ℕ)) (s t : List ℕ) → length fields ≡ 5 → with_fields strata_layout number row 0 fields s ≡ Ok t
    → length t ≡ length s + 4
one_row number [] row s t five e = absurd (omega (arith, five))
one_row number (field ∷ fields) row s t five e =
    let rest = more_fields number 1 fields row s t (omega arith) e in
    omega (arith, five, rest)

fours : (strata many : ℕ) → many ≡ strata * 4 → many % 4 ≡ 0
fours strata many e = omega (arith, e)

pub read_in-whole : (picks : Picks) (rows : List (List (List ℕ))) (cells : List ℕ) → MayPick 5 5 picks → read_in strata_layout Refuse picks rows ≡ Ok cells → AreWholeStrata cells
read_in-whole picks rows cells may e =
    let found = read_in-ok strata_layout Refuse picks rows cells e in
    let fields = found.0 in
    let read = found.1 in
    let many = picked-many strata_shape picks (length read.header) fields may read.fields_are in
    let five : length fields ≡ 5 = omega (arith, many.0, many.1) in
    let kept = with_rows-keep strata_layout Refuse (length read.header) fields (λ n cells. length cells ≡ n * 4)
    (λ number n row s t have e. let more = one_row number fields row s t five e in omega (arith, have, more))
    2 0 read.rest [] cells (omega arith) (omega arith) read.rows_say in
    let each : length cells ≡ kept.kept * 4 = rw (← zero-add kept.kept) kept.holds in
    let some : 0 < length cells = let test = read.enough in grind (arith, nat_tests) in
    record {
      not_empty = omega (arith, each, some);
      few_enough = omega (arith, each, kept.few, kept.all);
      four_each = fours kept.kept (length cells) each;
    }
