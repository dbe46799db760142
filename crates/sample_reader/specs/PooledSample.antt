-- The pooled sample of groups: their subjects in ascending order.
use Rattle.std.specs.Prelude.{ℕ, ℤ, Bool, List, map}
use Rattle.std.specs.List.{zip}
use Rattle.std.specs.Ordering.{int_cmp, is_le, nat_cmp, ordering_then}
use Rattle.std.specs.declared.cmp.Ordering.{Ordering}
use Rattle.weights.specs.InOrder.{in_order}
use Rattle.sample_reader.specs.Groups.{GroupData}
use Rattle.sample_reader.specs.declared.subjects.Subject.{Subject}

-- a subject is its value and its label
abbrev pub subject : ℤ × ℕ → Subject
subject s = record { value = s.0; label = s.1 }

unfoldable pub paired_subjects : List ℤ → List ℕ → List Subject
paired_subjects values labels = map subject (zip values labels)

-- by value, and those of one value by label
abbrev pub subject_cmp : Subject → Subject → Ordering
subject_cmp a b = ordering_then (int_cmp a.value b.value) (nat_cmp a.label b.label)

-- whether a subject may stand before another: where it does not come after
abbrev pub may_precede : Subject → Subject → Bool
may_precede a b = is_le (subject_cmp a b)

-- the pooled sample in ascending order
abbrev pub pooled : GroupData → List Subject
pooled groups = in_order may_precede (paired_subjects groups.values groups.members)

abbrev pub values_of : List Subject → List ℤ
values_of subjects = map (λ s. s.value) subjects

abbrev pub labels_of : List Subject → List ℕ
labels_of subjects = map (λ s. s.label) subjects
