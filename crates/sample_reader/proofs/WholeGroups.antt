-- The subjects of a file that is read make groups.
use Rattle.std.proofs.Common.{◌≡◌, ℕ, ◌+◌, ◌≤◌, nat_lt, List, [], ◌∷◌, ◌++◌, length, Ok, refl, sym, ap, ◌∙◌, arith, zero-add}
use Rattle.std.proofs.lemmas.Bool.Decides.{nat_tests}
use Rattle.std.proofs.lemmas.List.{length_push}
use Rattle.record_reader.specs.declared.missing.Missing.{Missing}
use Rattle.record_reader.specs.declared.picks.Picks.{Picks}
use Rattle.sample_reader.specs.GroupLayout.{Subjects, different, group_layout, grouped, groups_in, group_shape, no_subjects, with_label, with_number, with_subject_field}
use Rattle.sample_reader.specs.Groups.{GroupData}
use Rattle.record_reader.specs.Layouts.{MayPick, field_fault, read_in, text_of, with_fields}
use Rattle.sample_reader.specs.Kept.{AreWhole}
use Rattle.sample_reader.specs.Values.{label_in, value_in}
use Rattle.record_reader.proofs.LayoutLemmas.{IsRead, and_then-ok, picked-many, read_in-ok, unless_ok, with_fault-ok, with_rows-keep, with_value-ok}

-- what is true of the subjects of so many rows
record HaveRows (most rows : ℕ) (subjects : Subjects) : Type 0 where
  pub labels : length subjects.labels ≡ rows
  pub values : length subjects.values ≡ rows
  pub few : length (different subjects.labels) ≤ most

-- one label more, where there are few enough different ones
pub one_label : (most : ℕ) (s t : Subjects) (label : List ℕ) → with_label most s label ≡ Ok t
    → (length t.labels ≡ length s.labels + 1) × (length t.values ≡ length s.values) × (length (different t.labels) ≤ most)
one_label most s t label e =
    let few = unless_ok (nat_lt most (length (different (s.labels ++ label ∷ [])))) _ _ t e in
    let labels_are : s.labels ++ label ∷ [] ≡ t.labels = let k = few.1 in cc in
    let values_are : s.values ≡ t.values = let k = few.1 in cc in
    let low : length (different (s.labels ++ label ∷ [])) ≤ most = let test = few.0 in grind (arith, nat_tests) in
    rw (← labels_are, ← values_are) (length_push s.labels label, refl, low)

-- the subjects after the two fields of a row, by the text of each
pub one_subject : (most : ℕ) (s t u : Subjects) (a b : List ℕ) → with_subject_field most 0 a s ≡ Ok t → with_subject_field most 1 b t ≡ Ok u
    → (length u.labels ≡ length s.labels + 1) × (length u.values ≡ length s.values + 1) × (length (different u.labels) ≤ most)
one_subject most s t u a b first second =
    let label = and_then-ok (with_label most s) (label_in a) t first in
    let said = one_label most s t label.0 label.2 in
    let value = with_value-ok (with_number t) (value_in b) u second in
    rw (← value.2) (said.0, length_push t.values value.0 ∙ ap (λ n. n + 1) said.1, said.2)

one_row : (most number rows : ℕ) (fields : List ℕ) (row : List (List ℕ)) (s t : Subjects) → length fields ≡ 2 → HaveRows most rows s
    → with_fields (group_layout most) number row 0 fields s ≡ Ok t → HaveRows most (rows + 1) t
one_row most number rows [] row s t two have e = absurd (omega arith)
one_row most number rows (a ∷ []) row s t two have e = absurd (omega arith)
one_row most number rows (a ∷ b ∷ []) row s t two have e =
    let layout = group_layout most in
    let label = and_then-ok (with_fields layout number row 1 (b ∷ [])) _ t e in
    let value = and_then-ok (with_fields layout number row 2 []) _ t label.2 in
    let said = one_subject most s label.0 value.0 (text_of row a) (text_of row b) (with_fault-ok (field_fault number a) _ label.0 label.1) (with_fault-ok (field_fault number b) _ value.0 value.1) in
    let all : value.0 ≡ t = let k = value.2 in cc in
    rw (← all) (record { labels = said.0 ∙ ap (λ n. n + 1) have.labels; values = said.1 ∙ ap (λ n. n + 1) have.values; few = said.2 })
one_row most number rows (a ∷ b ∷ d ∷ fields) row s t two have e = absurd (omega arith)

-- what is true of the subjects of all rows: so many are kept
all_rows : (most : ℕ) (missing : Missing) (picks : Picks) (rows : List (List (List ℕ))) (subjects : Subjects) (fields : List ℕ) → MayPick 2 2 picks
    → IsRead (group_layout most) missing picks rows subjects fields → (kept : ℕ) × (kept ≤ group_shape.most_rows) × HaveRows most kept subjects
all_rows most missing picks rows subjects fields may read =
    let many = picked-many group_shape picks (length read.header) fields may read.fields_are in
    let two : length fields ≡ 2 = omega (arith, many.0, many.1) in
    let none : HaveRows most 0 no_subjects = record { labels = refl; values = refl; few = omega arith } in
    let kept = with_rows-keep (group_layout most) missing (length read.header) fields (HaveRows most) (λ number n row s t have e. one_row most number n fields row s t two have e)
    2 0 read.rest no_subjects subjects (omega arith) none read.rows_say in
    (kept.kept, omega (arith, kept.few, kept.all), rw (← zero-add kept.kept) kept.holds)

whole : (most : ℕ) (missing : Missing) (picks : Picks) (rows : List (List (List ℕ))) (subjects : Subjects) (fields : List ℕ) → MayPick 2 2 picks → most ≤ 8
    → IsRead (group_layout most) missing picks rows subjects fields → AreWhole subjects
whole most missing picks rows subjects fields may eight read =
    let all = all_rows most missing picks rows subjects fields may read in
    record {
      at_least_two = let test = read.enough in grind (arith, nat_tests);
      at_most_eight = omega (arith, all.2.few);
      few_enough = omega (arith, all.1, all.2.values);
      one_label_each = all.2.labels ∙ sym all.2.values;
    }

pub read_in-whole : (most : ℕ) (missing : Missing) (picks : Picks) (rows : List (List (List ℕ))) (subjects : Subjects) → MayPick 2 2 picks → most ≤ 8
    → read_in (group_layout most) missing picks rows ≡ Ok subjects → AreWhole subjects
read_in-whole most missing picks rows subjects may eight e = let read = read_in-ok (group_layout most) missing picks rows subjects e in whole most missing picks rows subjects read.0 may eight read.1

pub groups_in-few : (most : ℕ) (missing : Missing) (picks : Picks) (rows : List (List (List ℕ))) (groups : GroupData) → MayPick 2 2 picks → groups_in most missing picks rows ≡ Ok groups → length groups.labels ≤ most
groups_in-few most missing picks rows groups may e =
    let subjects = with_value-ok grouped (read_in (group_layout most) missing picks rows) groups e in
    let read = read_in-ok (group_layout most) missing picks rows subjects.0 subjects.1 in
    let all = all_rows most missing picks rows subjects.0 read.0 may read.1 in
    rw (← subjects.2) all.2.few
