-- Small files by computation: the data of each layout, and the first fault of each faulty file.
use Rattle.std.proofs.Common.{◌≡◌, ℕ, true, false, List, [], ◌∷◌, codes, Ok, Err, refl}
use Rattle.number_text.specs.CountTexts.{count_of}
use Rattle.record_reader.specs.declared.faults.Kind.TheVariants as kind
use Rattle.record_reader.specs.declared.picks.Picks.TheVariants.{Natural, Listed}
use Rattle.record_reader.specs.Layouts.{field_fault, row_fault}
use Rattle.table_reader.specs.StrataLayout.{strata_in}
use Rattle.table_reader.specs.TableLayout.{table_in}

abbrev two : List ℕ → List ℕ → List (List ℕ)
two a b = a ∷ b ∷ []

abbrev three : List ℕ → List ℕ → List ℕ → List (List ℕ)
three a b c = a ∷ b ∷ c ∷ []

abbrev header : List (List ℕ)
header = two (codes "a") (codes "b")

-- ---- tables

three_columns : table_in false Natural (three (codes "a") (codes "b") (codes "c") ∷ three (codes " 1") (codes "007") (codes "0") ∷ three (codes "4") (codes "5") (codes "6\t") ∷ [])
    ≡ Ok (record { rows = 2; columns = 3; cells = 1 ∷ 7 ∷ 0 ∷ 4 ∷ 5 ∷ 6 ∷ [] })
unfolding count_of
three_columns = refl

picked_columns : table_in true (Listed (3 ∷ 1 ∷ [])) (three (codes "a") (codes "b") (codes "c") ∷ three (codes "1") (codes "x") (codes "2") ∷ three (codes "3") (codes "") (codes "4") ∷ [])
    ≡ Ok (record { rows = 2; columns = 2; cells = 2 ∷ 1 ∷ 4 ∷ 3 ∷ [] })
unfolding count_of
picked_columns = refl

three_rows : table_in false Natural (header ∷ two (codes "1") (codes "2") ∷ two (codes "3") (codes "4") ∷ two (codes "5") (codes "6") ∷ [])
    ≡ Ok (record { rows = 3; columns = 2; cells = 1 ∷ 2 ∷ 3 ∷ 4 ∷ 5 ∷ 6 ∷ [] })
unfolding count_of
three_rows = refl

third_row : table_in true Natural (header ∷ two (codes "1") (codes "2") ∷ two (codes "3") (codes "4") ∷ two (codes "x") (codes "6") ∷ []) ≡ Err (row_fault 4 kind.TooManyRows)
unfolding count_of
third_row = refl

signed : table_in true Natural (header ∷ two (codes "1") (codes "+1") ∷ two (codes "x") (codes "4") ∷ []) ≡ Err (field_fault 2 2 kind.NotCount)
unfolding count_of
signed = refl

too_large : table_in true Natural (header ∷ two (codes "1000000") (codes "1") ∷ two (codes "1000001") (codes "4") ∷ []) ≡ Err (field_fault 3 1 kind.NotCount)
unfolding count_of
too_large = refl

one_row : table_in false Natural (header ∷ two (codes "1") (codes "2") ∷ []) ≡ Err (row_fault 2 kind.EndsEarly)
unfolding count_of
one_row = refl

wide_header : table_in true Natural (three (codes "a") (codes "b") (codes "c") ∷ []) ≡ Err (row_fault 1 kind.TooManyColumns)
wide_header = refl

-- ---- strata

abbrev five : List ℕ → List ℕ → List ℕ → List ℕ → List ℕ → List (List ℕ)
five name a b c d = name ∷ a ∷ b ∷ c ∷ d ∷ []

abbrev strata_header : List (List ℕ)
strata_header = five (codes "s") (codes "a") (codes "b") (codes "c") (codes "d")

two_strata : strata_in Natural (strata_header ∷ five (codes "x") (codes "1") (codes "2") (codes "3") (codes "4") ∷ five (codes "") (codes "5") (codes "6") (codes "7") (codes "8") ∷ [])
    ≡ Ok (1 ∷ 2 ∷ 3 ∷ 4 ∷ 5 ∷ 6 ∷ 7 ∷ 8 ∷ [])
unfolding count_of
two_strata = refl

empty_count : strata_in Natural (strata_header ∷ five (codes "x") (codes "1") (codes "2") (codes "") (codes "4") ∷ []) ≡ Err (field_fault 2 4 kind.NotCount)
unfolding count_of
empty_count = refl

no_stratum : strata_in Natural (strata_header ∷ []) ≡ Err (row_fault 1 kind.EndsEarly)
no_stratum = refl

narrow_header : strata_in Natural (three (codes "s") (codes "a") (codes "b") ∷ []) ≡ Err (row_fault 1 kind.FieldCount)
narrow_header = refl
