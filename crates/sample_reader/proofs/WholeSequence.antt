-- The labels of a file that is read make a sequence.
use Rattle.std.proofs.Common.{◌≡◌, ℕ, ◌+◌, ◌≤◌, List, [], ◌∷◌, length, Ok, refl, ap, ◌∙◌, arith}
use Rattle.std.proofs.lemmas.Bool.Decides.{nat_tests}
use Rattle.record_reader.specs.declared.missing.Missing.{Missing}
use Rattle.record_reader.specs.declared.picks.Picks.{Picks}
use Rattle.record_reader.specs.Layouts.{MayPick, field_fault, read_in, text_of, with_fields}
use Rattle.record_reader.proofs.LayoutLemmas.{IsRead, and_then-ok, picked-many, read_in-ok, with_fault-ok, with_rows-keep}
use Rattle.sample_reader.specs.GroupLayout.{Subjects, different, no_subjects, with_label}
use Rattle.sample_reader.specs.Kept.{IsWholeSequence}
use Rattle.sample_reader.specs.Sequences.{sequence_layout, sequence_shape}
use Rattle.sample_reader.specs.Values.{label_in}
use Rattle.sample_reader.proofs.WholeGroups.{one_label}

-- what is true of the labels of so many rows
record HaveRows (rows : ℕ) (subjects : Subjects) : Type 0 where
  pub labels : length subjects.labels ≡ rows
  pub few : length (different subjects.labels) ≤ 2

one_row : (number rows : ℕ) (fields : List ℕ) (row : List (List ℕ)) (s t : Subjects) → length fields ≡ 1 → HaveRows rows s → with_fields sequence_layout number row 0 fields s ≡ Ok t → HaveRows (rows + 1) t
one_row number rows [] row s t one have e = absurd (omega arith)
one_row number rows (a ∷ []) row s t one have e =
    let label = and_then-ok (with_fields sequence_layout number row 1 []) _ t e in
    let labelled = and_then-ok (with_label 2 s) (label_in (text_of row a)) label.0 (with_fault-ok (field_fault number a) _ label.0 label.1) in
    let said = one_label 2 s label.0 labelled.0 labelled.2 in
    let all : label.0 ≡ t = let k = label.2 in cc in
    rw (← all) (record { labels = said.0 ∙ ap (λ n. n + 1) have.labels; few = said.2 })
one_row number rows (a ∷ b ∷ fields) row s t one have e = absurd (omega arith)

whole : (missing : Missing) (picks : Picks) (rows : List (List (List ℕ))) (subjects : Subjects) (fields : List ℕ) → MayPick 1 1 picks → IsRead sequence_layout missing picks rows subjects fields → IsWholeSequence subjects
whole missing picks rows subjects fields may read =
    let many = picked-many sequence_shape picks (length read.header) fields may read.fields_are in
    let one : length fields ≡ 1 = omega (arith, many.0, many.1) in
    let none : HaveRows 0 no_subjects = record { labels = refl; few = omega arith } in
    let kept = with_rows-keep sequence_layout missing (length read.header) fields HaveRows (λ number n row s t have e. one_row number n fields row s t one have e)
    2 0 read.rest no_subjects subjects (omega arith) none read.rows_say in
    record {
      two = let test = read.enough in let few = kept.holds.few in grind (arith, nat_tests);
      few_enough = omega (arith, kept.few, kept.all, kept.holds.labels);
    }

pub sequence-whole : (missing : Missing) (picks : Picks) (rows : List (List (List ℕ))) (subjects : Subjects) → MayPick 1 1 picks → read_in sequence_layout missing picks rows ≡ Ok subjects → IsWholeSequence subjects
sequence-whole missing picks rows subjects may e = let read = read_in-ok sequence_layout missing picks rows subjects e in whole missing picks rows subjects read.0 may read.1
