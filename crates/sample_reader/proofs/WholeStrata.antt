-- The subjects of a file that is read make groups in strata.
use Rattle.std.proofs.Common.{◌≡◌, ℕ, ◌+◌, ◌≤◌, List, [], ◌∷◌, length, Ok, refl, sym, ap, ◌∙◌, arith}
use Rattle.std.proofs.lemmas.Bool.Decides.{nat_tests}
use Rattle.std.proofs.lemmas.List.{length_push}
use Rattle.record_reader.specs.declared.missing.Missing.{Missing}
use Rattle.record_reader.specs.declared.picks.Picks.{Picks}
use Rattle.record_reader.specs.Layouts.{MayPick, field_fault, read_in, text_of, with_fields}
use Rattle.record_reader.proofs.LayoutLemmas.{IsRead, and_then-ok, picked-many, read_in-ok, with_fault-ok, with_rows-keep, with_value-ok}
use Rattle.sample_reader.specs.GroupLayout.{Subjects, different, with_subject_field}
use Rattle.sample_reader.specs.Kept.{AreWholeInStrata}
use Rattle.sample_reader.specs.StrataGroups.{StrataSubjects, no_strata, strata_groups_layout, strata_groups_shape, with_stratum, with_subjects}
use Rattle.sample_reader.specs.Values.{label_in}
use Rattle.sample_reader.proofs.WholeGroups.{one_subject}

-- what is true of the subjects of so many rows
record HaveRows (rows : ℕ) (so_far : StrataSubjects) : Type 0 where
  pub strata : length so_far.strata ≡ rows
  pub labels : length so_far.subjects.labels ≡ rows
  pub values : length so_far.subjects.values ≡ rows
  pub few : length (different so_far.subjects.labels) ≤ 2

-- the first field of a subject is read the same way, whatever its stratum
from_first : (s t u v : Subjects) (text : List ℕ) → t ≡ s → with_subject_field 2 0 text t ≡ Ok v → v ≡ u → with_subject_field 2 0 text s ≡ Ok u
from_first s t u v text same read is = ap (with_subject_field 2 0 text) (sym same) ∙ read ∙ ap Ok is

-- a stratum's label more, and then other subjects
one_stratum : (s t u : StrataSubjects) (stratum : List ℕ) (subjects : Subjects) → with_stratum s stratum ≡ t → with_subjects t subjects ≡ u → length u.strata ≡ length s.strata + 1
one_stratum s t u stratum subjects first second = rw (← second, ← first) (length_push s.strata stratum)

one_more : (rows : ℕ) (s t : StrataSubjects) → HaveRows rows s → length t.strata ≡ length s.strata + 1 → length t.subjects.labels ≡ length s.subjects.labels + 1
    → length t.subjects.values ≡ length s.subjects.values + 1 → length (different t.subjects.labels) ≤ 2 → HaveRows (rows + 1) t
one_more rows s t have strata labels values few = record {
  strata = strata ∙ ap (λ n. n + 1) have.strata;
  labels = labels ∙ ap (λ n. n + 1) have.labels;
  values = values ∙ ap (λ n. n + 1) have.values;
  few = few;
}

one_row : (number rows : ℕ) (fields : List ℕ) (row : List (List ℕ)) (s t : StrataSubjects) → length fields ≡ 3 → HaveRows rows s → with_fields strata_groups_layout number row 0 fields s ≡ Ok t → HaveRows (rows + 1) t
one_row number rows [] row s t three have e = absurd (omega arith)
one_row number rows (a ∷ []) row s t three have e = absurd (omega arith)
one_row number rows (a ∷ b ∷ []) row s t three have e = absurd (omega arith)
one_row number rows (a ∷ b ∷ c ∷ []) row s t three have e =
    let first = and_then-ok (with_fields strata_groups_layout number row 1 (b ∷ c ∷ [])) _ t e in
    let stratum = with_value-ok (with_stratum s) (label_in (text_of row a)) first.0 (with_fault-ok (field_fault number a) _ first.0 first.1) in
    let second = and_then-ok (with_fields strata_groups_layout number row 2 (c ∷ [])) _ t first.2 in
    let labelled = with_value-ok (with_subjects first.0) (with_subject_field 2 0 (text_of row b) first.0.subjects) second.0 (with_fault-ok (field_fault number b) _ second.0 second.1) in
    let third = and_then-ok (with_fields strata_groups_layout number row 3 []) _ t second.2 in
    let valued = with_value-ok (with_subjects second.0) (with_subject_field 2 1 (text_of row c) second.0.subjects) third.0 (with_fault-ok (field_fault number c) _ third.0 third.1) in
    let all : third.0 ≡ t = let k = third.2 in cc in
    let same : first.0.subjects ≡ s.subjects = sym (ap (λ u. u.subjects) stratum.2) in
    let now_labelled = from_first s.subjects first.0.subjects second.0.subjects labelled.0 (text_of row b) same labelled.1 (ap (λ u. u.subjects) labelled.2) in
    let said = one_subject 2 s.subjects second.0.subjects valued.0 (text_of row b) (text_of row c) now_labelled valued.1 in
    let strata_are = one_stratum s first.0 second.0 stratum.0 labelled.0 stratum.2 labelled.2 in
    rw (← all, ← valued.2) (one_more rows s (with_subjects second.0 valued.0) have strata_are said.0 said.1 said.2)
one_row number rows (a ∷ b ∷ c ∷ d ∷ fields) row s t three have e = absurd (omega arith)

whole : (missing : Missing) (picks : Picks) (rows : List (List (List ℕ))) (so_far : StrataSubjects) (fields : List ℕ) → MayPick 3 3 picks → IsRead strata_groups_layout missing picks rows so_far fields → AreWholeInStrata so_far
whole missing picks rows so_far fields may read =
    let many = picked-many strata_groups_shape picks (length read.header) fields may read.fields_are in
    let three : length fields ≡ 3 = omega (arith, many.0, many.1) in
    let none : HaveRows 0 no_strata = record { strata = refl; labels = refl; values = refl; few = omega arith } in
    let kept = with_rows-keep strata_groups_layout missing (length read.header) fields HaveRows (λ number n row s t have e. one_row number n fields row s t three have e)
    2 0 read.rest no_strata so_far (omega arith) none read.rows_say in
    let two : length (different so_far.subjects.labels) ≡ 2 = let test = read.enough in let few = kept.holds.few in grind (arith, nat_tests) in
    record {
      whole = record {
        at_least_two = omega (arith, two);
        at_most_eight = omega (arith, two);
        few_enough = omega (arith, kept.few, kept.all, kept.holds.values);
        one_label_each = kept.holds.labels ∙ sym kept.holds.values;
      };
      two = two;
      one_stratum_each = kept.holds.strata ∙ sym kept.holds.values;
    }

pub strata-whole : (missing : Missing) (picks : Picks) (rows : List (List (List ℕ))) (so_far : StrataSubjects) → MayPick 3 3 picks → read_in strata_groups_layout missing picks rows ≡ Ok so_far → AreWholeInStrata so_far
strata-whole missing picks rows so_far may e = let read = read_in-ok strata_groups_layout missing picks rows so_far e in whole missing picks rows so_far read.0 may read.1
