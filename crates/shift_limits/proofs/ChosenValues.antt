-- The values with a label, one subject after another.
use Rattle.std.proofs.Common.{◌≡◌, ℕ, zero, suc, ◌+◌, ◌<◌, Bool, true, false, cond, nat_eq, ℤ, pos, List, [], ◌∷◌, ◌++◌, length, get_or, take, refl, ap, arith, suc-add}
use Rattle.std.specs.List.{AllByRecursion, count_by, filter}
use Rattle.std.proofs.lemmas.List.Sums.{sum_by-cons}
use Rattle.sample_reader.specs.PooledSample.{paired_subjects, values_of}
use Rattle.sample_reader.specs.declared.subjects.Subject.{Subject}
use Rattle.shift_limits.specs.Differences.{labelled_values}

-- of one subject and those after it
pub labelled-cons : (label : ℕ) (v : ℤ) (values : List ℤ) (m : ℕ) (members : List ℕ)
    → labelled_values label (v ∷ values) (m ∷ members) ≡ cond (nat_eq m label) (v ∷ labelled_values label values members) (labelled_values label values members)
unfolding labelled_values paired_subjects
labelled-cons label v values m members = by (nat_eq m label)
  where
    rest : List Subject
    rest = filter (λ s. nat_eq s.label label) (paired_subjects values members)

    by : (b : Bool) → values_of (cond b (record { value = v; label = m } ∷ rest) rest) ≡ cond b (v ∷ values_of rest) (values_of rest)
    by true = refl
    by false = refl

pub labelled-none : (label : ℕ) → labelled_values label [] [] ≡ []
unfolding labelled_values paired_subjects
labelled-none label = refl

-- one subject more
pub labelled-more : (label : ℕ) (values : List ℤ) (members : List ℕ) (i : ℕ) → i < length values → i < length members
    → labelled_values label (take (i + 1) values) (take (i + 1) members) ≡ labelled_values label (take i values) (take i members) ++ cond (nat_eq (get_or members i 0) label) (get_or values i (pos 0) ∷ []) []
labelled-more label [] members i here there = absurd (omega arith)
labelled-more label (v ∷ values) [] i here there = absurd (omega arith)
labelled-more label (v ∷ values) (m ∷ members) zero here there = rw (labelled-cons label v [] m [], labelled-none label) refl
labelled-more label (v ∷ values) (m ∷ members) (suc i) here there =
    rw (suc-add i 1, labelled-cons label v (take (i + 1) values) m (take (i + 1) members), labelled-cons label v (take i values) m (take i members))
    (by (nat_eq m label) (labelled-more label values members i (omega arith) (omega arith)))
  where
    more : List ℤ
    more = cond (nat_eq (get_or members i 0) label) (get_or values i (pos 0) ∷ []) []

    by : (b : Bool) → labelled_values label (take (i + 1) values) (take (i + 1) members) ≡ labelled_values label (take i values) (take i members) ++ more
        → cond b (v ∷ labelled_values label (take (i + 1) values) (take (i + 1) members)) (labelled_values label (take (i + 1) values) (take (i + 1) members))
        ≡ cond b (v ∷ labelled_values label (take i values) (take i members)) (labelled_values label (take i values) (take i members)) ++ more
    by true e = ap (λ (vs : List ℤ). v ∷ vs) e
    by false e = e

-- what holds of all values holds of these
pub labelled-all : (P : ℤ → Type 0) (label : ℕ) (values : List ℤ) (members : List ℕ) → length members ≡ length values → AllByRecursion P values → AllByRecursion P (labelled_values label values members)
labelled-all P label [] [] same all = rw (labelled-none label) tt
labelled-all P label [] (m ∷ members) same all = absurd (omega (arith, same))
labelled-all P label (v ∷ values) [] same all = absurd (omega (arith, same))
labelled-all P label (v ∷ values) (m ∷ members) same all = rw (labelled-cons label v values m members) (by (nat_eq m label) (labelled-all P label values members (omega (arith, same)) all.1))
  where
    by : (b : Bool) → AllByRecursion P (labelled_values label values members) → AllByRecursion P (cond b (v ∷ labelled_values label values members) (labelled_values label values members))
    by true rest = (all.0, rest)
    by false rest = rest

-- there are as many as the label occurs
pub labelled-length : (label : ℕ) (values : List ℤ) (members : List ℕ) → length members ≡ length values → length (labelled_values label values members) ≡ count_by (λ l. nat_eq l label) members
labelled-length label [] [] same = rw (labelled-none label) refl
labelled-length label [] (m ∷ members) same = absurd (omega (arith, same))
labelled-length label (v ∷ values) [] same = absurd (omega (arith, same))
labelled-length label (v ∷ values) (m ∷ members) same = rw (labelled-cons label v values m members, sum_by-cons (λ l. cond (nat_eq l label) 1 0) m members) (by (nat_eq m label) (labelled-length label values members (omega (arith, same))))
  where
    by : (b : Bool) → length (labelled_values label values members) ≡ count_by (λ l. nat_eq l label) members
        → length (cond b (v ∷ labelled_values label values members) (labelled_values label values members)) ≡ cond b 1 0 + count_by (λ l. nat_eq l label) members
    by true e = omega (arith, e)
    by false e = omega (arith, e)
