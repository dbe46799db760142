-- The order of the pooled sample.
use Rattle.std.proofs.Common.{◌≡◌, ◌<◌, ◌≤◌, ◌+◌, ℕ, ℤ, pos, List, [], ◌∷◌, ◌++◌, take, drop, get_or, length, replicate, refl, ap, suc-add, zero, suc, arith}
use Rattle.std.specs.List.{AllByRecursion}
use Rattle.std.specs.Ordering.{int_cmp, nat_cmp}
use Rattle.std.specs.Cmp.{IsTotalOrder, int_cmp_total, nat_cmp_total}
use Rattle.std.proofs.lemmas.Cmp.{on_total, then_total}
use Rattle.std.proofs.lemmas.Map.Lookups.{CmpEqualImpliesEq, exact_pairs, exact_signed, exact_unsigned}
use Rattle.sample_reader.specs.PooledSample.{subject, subject_cmp, paired_subjects}

pub subjects-total : IsTotalOrder subject_cmp
subjects-total = then_total (on_total (λ s. s.value) int_cmp_total) (on_total (λ s. s.label) nat_cmp_total)

-- subjects that compare alike are one
pub subjects-exact : CmpEqualImpliesEq subject_cmp
subjects-exact a b e = ap (λ (p : ℤ × ℕ). record { value = p.0; label = p.1 }) (exact_pairs int_cmp nat_cmp exact_signed exact_unsigned (a.value, a.label) (b.value, b.label) e)

-- one more subject
pub paired_subjects-more : (values : List ℤ) (labels : List ℕ) (i : ℕ) → i < length values → i < length labels
    → paired_subjects (take (i + 1) values) (take (i + 1) labels) ≡ paired_subjects (take i values) (take i labels) ++ record { value = get_or values i (pos 0); label = get_or labels i 0 } ∷ []
unfolding paired_subjects
paired_subjects-more [] labels i here there = absurd (omega arith)
paired_subjects-more (v ∷ values) [] i here there = absurd (omega arith)
paired_subjects-more (v ∷ values) (l ∷ labels) zero here there = refl
paired_subjects-more (v ∷ values) (l ∷ labels) (suc i) here there = rw (suc-add i 1) (ap (λ subjects. subject (v, l) ∷ subjects) (paired_subjects-more values labels i (omega arith) (omega arith)))

pub paired-block : (c : ℕ) (v : ℤ) (rest : List ℤ) (xs : List ℕ) → c ≤ length xs → paired_subjects (replicate c v ++ rest) xs ≡ paired_subjects (replicate c v) (take c xs) ++ paired_subjects rest (drop c xs)
unfolding paired_subjects
paired-block zero v rest xs h = refl
paired-block (suc c) v rest [] h = absurd (omega (arith, h))
paired-block (suc c) v rest (x ∷ xs) h = ap (λ ts. record { value = v; label = x } ∷ ts) (paired-block c v rest xs (omega (arith, h)))

pub paired-all : (P : ℤ → Type 0) (firsts : List ℤ) (xs : List ℕ) → AllByRecursion P firsts → AllByRecursion (λ t. P t.value) (paired_subjects firsts xs)
unfolding paired_subjects
paired-all P [] xs a = tt
paired-all P (v ∷ firsts) [] a = tt
paired-all P (v ∷ firsts) (x ∷ xs) a = (a.0, paired-all P firsts xs a.1)

pub paired-few : (firsts : List ℤ) (xs : List ℕ) → length (paired_subjects firsts xs) ≤ length firsts
unfolding paired_subjects
paired-few [] xs = omega arith
paired-few (v ∷ firsts) [] = omega arith
paired-few (v ∷ firsts) (x ∷ xs) = omega (arith, paired-few firsts xs)
