-- The values of the pooled sample rise, and there are as many as subjects.
use Rattle.std.proofs.Common.{◌≡◌, ℕ, suc, Bool, true, false, cond, List, [], ◌∷◌, length, refl, ◌∙◌, ap, arith}
use Rattle.std.specs.Prelude.{ℤ, ◌≤ℤ◌, ◌<ℤ◌}
use Rattle.std.specs.List.{AllByRecursion}
use Rattle.std.specs.Ordering.{int_cmp, is_le, nat_cmp, ordering_then}
use Rattle.std.specs.declared.cmp.Ordering.{Ordering}
use Rattle.std.specs.declared.cmp.Ordering.TheVariants.{Less, Equal, Greater}
use Rattle.std.proofs.lemmas.Cmp.{int_ranked}
use Rattle.std.proofs.lemmas.Int.{ints}
use Rattle.std.proofs.lemmas.List.{length-map}
use Rattle.weights.specs.InOrder.{in_order, put_in}
use Rattle.weights.proofs.OneOrder.{length-in_order}
use Rattle.weights.proofs.Filters.{all_weaker}
use Rattle.sample_reader.specs.Groups.{GroupData}
use Rattle.sample_reader.specs.PooledSample.{may_precede, paired_subjects, pooled, subject_cmp, values_of}
use Rattle.sample_reader.specs.declared.subjects.Subject.{Subject}
use Rattle.pooled_columns.specs.PooledColumns.{pooled_values}

-- no value is below an earlier one
abbrev pub Rises : List ℤ → Type 0
Rises [] = Unit {0}
Rises (v ∷ vs) = AllByRecursion (λ w. v ≤ℤ w) vs × Rises vs

weaker : (a b : ℤ) → a <ℤ b → a ≤ℤ b
weaker a b h = omega (arith, ints)

alike : (a b : ℤ) → a ≡ b → a ≤ℤ b
alike a b h = omega (arith, ints)

chain : (a b c : ℤ) → a ≤ℤ b → b ≤ℤ c → a ≤ℤ c
chain a b c h k = omega (arith, ints)

-- subjects in order have values in order
not-after : (a b : Subject) → is_le (subject_cmp a b) ≡ true → a.value ≤ℤ b.value
not-after a b e = by (int_cmp a.value b.value) refl e
  where
    by : (o : Ordering) → o ≡ int_cmp a.value b.value → is_le (ordering_then o (nat_cmp a.label b.label)) ≡ true → a.value ≤ℤ b.value
    by Less p e = weaker a.value b.value (int_ranked a.value b.value Less p)
    by Equal p e = alike a.value b.value (int_ranked a.value b.value Equal p)
    by Greater p e = absurd (cc e)

not-before : (a b : Subject) → is_le (subject_cmp a b) ≡ false → b.value ≤ℤ a.value
not-before a b e = by (int_cmp a.value b.value) refl e
  where
    turned : (a b : ℤ) → a ≡ b → b ≤ℤ a
    turned a b h = omega (arith, ints)

    by : (o : Ordering) → o ≡ int_cmp a.value b.value → is_le (ordering_then o (nat_cmp a.label b.label)) ≡ false → b.value ≤ℤ a.value
    by Less p e = absurd (cc e)
    by Equal p e = turned a.value b.value (int_ranked a.value b.value Equal p)
    by Greater p e = weaker b.value a.value (int_ranked a.value b.value Greater p)

insert-all : (P : ℤ → Type 0) (x : Subject) (xs : List Subject) → P x.value → AllByRecursion P (values_of xs) → AllByRecursion P (values_of (put_in may_precede x xs))
insert-all P x [] one all = (one, tt)
insert-all P x (y ∷ ys) one all = by (is_le (subject_cmp x y)) (insert-all P x ys one all.1)
  where
    by : (b : Bool) → AllByRecursion P (values_of (put_in may_precede x ys)) → AllByRecursion P (values_of (cond b (x ∷ y ∷ ys) (y ∷ put_in may_precede x ys)))
    by true rest = (one, all)
    by false rest = (all.0, rest)

insert-rises : (x : Subject) (xs : List Subject) → Rises (values_of xs) → Rises (values_of (put_in may_precede x xs))
insert-rises x [] up = (tt, tt)
insert-rises x (y ∷ ys) up = by (is_le (subject_cmp x y)) refl (insert-rises x ys up.1)
  where
    by : (b : Bool) → is_le (subject_cmp x y) ≡ b → Rises (values_of (put_in may_precede x ys)) → Rises (values_of (cond b (x ∷ y ∷ ys) (y ∷ put_in may_precede x ys)))
    by true e rest = ((not-after x y e, all_weaker (λ w. y.value ≤ℤ w) (λ w. x.value ≤ℤ w) (λ w h. chain x.value y.value w (not-after x y e) h) (values_of ys) up.0), up)
    by false e rest = (insert-all (λ w. y.value ≤ℤ w) x ys (not-before x y e) up.0, rest)

ascending-rises : (xs : List Subject) → Rises (values_of (in_order may_precede xs))
ascending-rises [] = tt
ascending-rises (x ∷ xs) = insert-rises x (in_order may_precede xs) (ascending-rises xs)

pub pooled-rises : (groups : GroupData) → Rises (pooled_values groups)
pooled-rises groups = ascending-rises (paired_subjects groups.values groups.members)

pub length-paired : (values : List ℤ) (labels : List ℕ) → length labels ≡ length values → length (paired_subjects values labels) ≡ length values
unfolding paired_subjects
length-paired [] labels same = refl
length-paired (v ∷ values) [] same = absurd (omega arith)
length-paired (v ∷ values) (l ∷ labels) same = ap suc (length-paired values labels (omega arith))

pub length-pooled : (groups : GroupData) → length groups.members ≡ length groups.values → length (pooled_values groups) ≡ length groups.values
length-pooled groups same =
    length-map (pooled groups) (λ (s : Subject). s.value)
    ∙ length-in_order may_precede (paired_subjects groups.values groups.members) ∙ length-paired groups.values groups.members same
