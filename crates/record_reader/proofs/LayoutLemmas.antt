-- What follows from the definition of the data of a file in a layout.
use Rattle.std.proofs.Common.{◌≡◌, ℕ, ◌+◌, ◌<◌, ◌≤◌, Bool, true, false, cond, nat_lt, List, [], ◌∷◌, length, Result, Ok, Err, refl, sym, ap, ◌∙◌, arith, add-zero}
use Rattle.std.specs.List.{list_any, range_with_len}
use Rattle.std.proofs.lemmas.Bool.Decides.{nat_tests}
use Rattle.std.proofs.lemmas.List.Elements.{All-from_get_or}
use Rattle.std.proofs.lemmas.List.FromFn.{get_or-range_with_len, length-range_with_len}
use Rattle.record_reader.specs.declared.missing.Missing.{Missing}
use Rattle.record_reader.specs.declared.missing.Missing.TheVariants.{Refuse, Drop}
use Rattle.record_reader.specs.declared.picks.Picks.{Picks}
use Rattle.record_reader.specs.declared.picks.Picks.TheVariants.{Natural, Listed}
use Rattle.record_reader.specs.declared.layouts.Shape.{Shape}
use Rattle.record_reader.specs.Layouts.{AreFields, Layout, MayPick, dropped_among, dropped_rows, if_enough, is_dropped, picked, read_in, with_fields, with_kept, with_row, with_rows}
use Rattle.weights.specs.Results.{and_then, with_fault, with_value}

-- ---- numbers of fields

pub AreFields-range : (width : ℕ) → AreFields width (range_with_len 1 width)
AreFields-range width =
    All-from_get_or (λ field. (1 ≤ field) × (field ≤ width)) (range_with_len 1 width) 0
    (λ i within. let lt : i < width = omega (arith, length-range_with_len 1 width) in let e = get_or-range_with_len 1 width i 0 lt in (omega arith, omega arith))

pub picked-listed : (shape : Shape) (fields : List ℕ) (width : ℕ) → list_any (λ field. nat_lt width field) fields ≡ false → picked shape (Listed fields) width ≡ Ok fields
picked-listed shape fields width e = rw e

-- ---- what a file that is read says

pub and_then-ok : {S T F : Type 0} (next : S → Result T F) (r : Result S F) (t : T) → and_then next r ≡ Ok t → (s : S) × (r ≡ Ok s) × (next s ≡ Ok t)
and_then-ok next (Ok s) t e = (s, refl, e)
and_then-ok next (Err fault) t e = absurd (cc)

pub with_fault-ok : {S F G : Type 0} (change : F → G) (r : Result S F) (s : S) → with_fault change r ≡ Ok s → r ≡ Ok s
with_fault-ok change (Ok t) s e = let k : t ≡ s = cc in ap Ok k
with_fault-ok change (Err fault) s e = absurd (cc)

pub with_value-ok : {S T F : Type 0} (change : S → T) (r : Result S F) (t : T) → with_value change r ≡ Ok t → (s : S) × (r ≡ Ok s) × (change s ≡ t)
with_value-ok change (Ok s) t e = let k : change s ≡ t = cc in (s, refl, k)
with_value-ok change (Err fault) t e = absurd (cc)

if_ok : {S F : Type 0} (test : Bool) (fault : F) (s t : S) → cond test (Ok s) (Err fault) ≡ Ok t → (test ≡ true) × (s ≡ t)
if_ok true fault s t e = let k : s ≡ t = cc in (refl, k)
if_ok false fault s t e = absurd (cc)

pub unless_ok : {S F : Type 0} (test : Bool) (fault : F) (r : Result S F) (t : S) → cond test (Err fault) r ≡ Ok t → (test ≡ false) × (r ≡ Ok t)
unless_ok true fault r t e = absurd (cc)
unless_ok false fault r t e = (refl, e)

where_ok : {S F : Type 0} (test : Bool) (fault : F) (r : Result S F) (t : S) → cond test r (Err fault) ≡ Ok t → (test ≡ true) × (r ≡ Ok t)
where_ok true fault r t e = (refl, e)
where_ok false fault r t e = absurd (cc)

-- The picked fields are as many as the shape allows.
pub picked-many : (shape : Shape) (picks : Picks) (width : ℕ) (fields : List ℕ) → MayPick shape.narrowest shape.widest picks → picked shape picks width ≡ Ok fields
    → (shape.narrowest ≤ length fields) × (length fields ≤ shape.widest)
picked-many shape Natural width fields may e =
    let wide = unless_ok (nat_lt width shape.narrowest) _ _ fields e in
    let narrow = unless_ok (nat_lt shape.widest width) _ _ fields wide.1 in
    let same : range_with_len 1 width ≡ fields = let k = narrow.1 in cc in
    let many : width ≡ length fields = sym (length-range_with_len 1 width) ∙ ap length same in
    let low : shape.narrowest ≤ width = let t = wide.0 in grind (arith, nat_tests) in
    let high : width ≤ shape.widest = let t = narrow.0 in grind (arith, nat_tests) in
    (omega arith, omega arith)
picked-many shape (Listed listed) width fields may e =
    let all = unless_ok (list_any (λ field. nat_lt width field) listed) _ _ fields e in
    let same : listed ≡ fields = let k = all.1 in cc in
    rw (← same) (may.wide_enough, may.narrow_enough)

-- A dropped row is not one too many.
dropped-low : {S : Type 0} (layout : Layout S) (missing : Missing) (width : ℕ) (fields : List ℕ) (number : ℕ) (row : List (List ℕ)) → is_dropped layout missing width fields number row ≡ true
    → number ≤ layout.shape.most_rows + 1
dropped-low layout Refuse width fields number row e = absurd (cc)
dropped-low layout Drop width fields number row e = grind (arith, nat_tests)

-- What is said after rows of which so many are kept, and the others dropped.
pub record AreRead {S : Type 0} (layout : Layout S) (missing : Missing) (width : ℕ) (fields : List ℕ) (Holds : ℕ → S → Type 0) (number n : ℕ) (rows : List (List (List ℕ))) (said : S) : Type 0 where
  pub few : number + length rows ≤ layout.shape.most_rows + 2
  pub kept : ℕ
  pub all : kept + dropped_among layout missing width fields number rows ≡ length rows
  pub holds : Holds (n + kept) said

-- A fact about what is said after so many rows that are kept holds after all rows.
module _ {S : Type 0} (layout : Layout S) (missing : Missing) (width : ℕ) (fields : List ℕ) (Holds : ℕ → S → Type 0)
    (one_more : (number n : ℕ) (row : List (List ℕ)) (s t : S) → Holds n s → with_fields layout number row 0 fields s ≡ Ok t → Holds (n + 1) t) where
  with_kept-keeps : (number n : ℕ) (row : List (List ℕ)) (s t : S) → Holds n s → with_kept layout width fields number row s ≡ Ok t → (number ≤ layout.shape.most_rows + 1) × Holds (n + 1) t
  with_kept-keeps number n row s t h e =
      let few = unless_ok (nat_lt (layout.shape.most_rows + 1) number) _ _ t e in
      let low : number ≤ layout.shape.most_rows + 1 = let test = few.0 in grind (arith, nat_tests) in
      let as_wide = where_ok _ _ _ t few.1 in
      (low, one_more number n row s t h as_wide.1)

  pub with_rows-keep : (number n : ℕ) (rows : List (List (List ℕ))) (s t : S) → number ≤ layout.shape.most_rows + 2 → Holds n s → with_rows layout missing width fields number rows s ≡ Ok t
      → AreRead layout missing width fields Holds number n rows t
  with_rows-keep number n [] s t few h e = let same : s ≡ t = cc in record { few = omega arith; kept = 0; all = refl; holds = rw (← same, add-zero) h }
  with_rows-keep number n (row ∷ rows) s t few h e =
      let first = and_then-ok (with_rows layout missing width fields (number + 1) rows) (with_row layout missing width fields number row s) t e in
      by (is_dropped layout missing width fields number row) refl first.0 first.1 (λ m few h. with_rows-keep (number + 1) m rows first.0 t few h first.2)
    where
      by : (test : Bool) → is_dropped layout missing width fields number row ≡ test → (u : S) → with_row layout missing width fields number row s ≡ Ok u
          → ((m : ℕ) → number + 1 ≤ layout.shape.most_rows + 2 → Holds m u → AreRead layout missing width fields Holds (number + 1) m rows t)
          → AreRead layout missing width fields Holds number n (row ∷ rows) t
      by true is u said later =
          let same : s ≡ u = let left = rw is at said in cc in
          let low = dropped-low layout missing width fields number row is in
          let rest = later n (omega arith) (rw (← same) h) in
          record { few = omega (arith, rest.few); kept = rest.kept; all = rw is (omega (arith, rest.all)); holds = rest.holds }
      by false is u said later =
          let read : with_kept layout width fields number row s ≡ Ok u = rw is at said in
          let one = with_kept-keeps number n row s u h read in
          let rest = later (n + 1) (omega (arith, one.0)) one.1 in
          let more : n + 1 + rest.kept ≡ n + (1 + rest.kept) = omega arith in
          record { few = omega (arith, rest.few); kept = 1 + rest.kept; all = rw is (omega (arith, rest.all)); holds = rw (← more) rest.holds }

-- What is known of a file that is read.
pub record IsRead {S : Type 0} (layout : Layout S) (missing : Missing) (picks : Picks) (rows : List (List (List ℕ))) (said : S) (fields : List ℕ) : Type 0 where
  pub header : List (List ℕ)
  pub rest : List (List (List ℕ))
  pub rows_are : rows ≡ header ∷ rest
  pub fields_are : picked layout.shape picks (length header) ≡ Ok fields
  pub rows_say : with_rows layout missing (length header) fields 2 rest layout.start ≡ Ok said
  pub enough : layout.is_enough said ≡ true

pub read_in-ok : {S : Type 0} (layout : Layout S) (missing : Missing) (picks : Picks) (rows : List (List (List ℕ))) (said : S) → read_in layout missing picks rows ≡ Ok said
    → (fields : List ℕ) × IsRead layout missing picks rows said fields
read_in-ok layout missing picks [] said e = absurd (cc)
read_in-ok layout missing picks (header ∷ rows) said e =
    let by_rows = and_then-ok (if_enough layout (length rows + 1)) _ said e in
    let by_header = and_then-ok (λ fields. with_rows layout missing (length header) fields 2 rows layout.start) (picked layout.shape picks (length header)) by_rows.0 by_rows.1 in
    let last = if_ok (layout.is_enough by_rows.0) _ by_rows.0 said by_rows.2 in (
      by_header.0,
      record {
        header = header;
        rest = rows;
        rows_are = refl;
        fields_are = by_header.1;
        rows_say = by_header.2 ∙ ap Ok last.1;
        enough = rw (← last.1) last.0;
      },
    )

-- ---- dropped rows

-- Of a file that is read, the dropped rows are those among its data rows.
pub dropped-read : {S : Type 0} (layout : Layout S) (missing : Missing) (picks : Picks) (rows : List (List (List ℕ))) (said : S) (fields : List ℕ)
    → (read : IsRead layout missing picks rows said fields) → dropped_rows layout missing picks rows ≡ dropped_among layout missing (length read.header) fields 2 read.rest
dropped-read layout missing picks rows said fields read = rw (read.rows_are, read.fields_are) refl
