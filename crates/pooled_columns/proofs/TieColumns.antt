-- Tie groups of values that rise: their scores, each as often as the group has values, are those of the values.
use Rattle.std.proofs.Common.{◌≡◌, ℕ, ◌+◌, Bool, true, false, cond, List, [], ◌∷◌, ◌++◌, length, map, refl, ◌∙◌, ap, arith, add-one}
use Rattle.std.specs.Prelude.{ℤ, ◌≤ℤ◌, int_lt, replicate}
use Rattle.std.specs.List.{AllByRecursion, sum}
use Rattle.std.specs.Ordering.{int_eq}
use Rattle.std.proofs.lemmas.Int.{ints}
use Rattle.std.proofs.lemmas.List.Sums.{sum-map}
use Rattle.midranks.specs.Ties.{tie_groups, with_one_more}
use Rattle.midranks.specs.declared.ties.Tie.{Tie}
use Rattle.midranks.proofs.Places.{values_in-groups}
use Rattle.midranks.proofs.TieLemmas.{past, same-from_test}
use Rattle.later_scores.specs.LaterSums.{subjects}
use Rattle.pooled_columns.specs.PooledColumns.{column_sizes}
use Rattle.pooled_columns.proofs.PooledValues.{Rises}

-- a value is not above the first group's
abbrev Leads : ℤ → List Tie → Type 0
Leads v [] = Unit {0}
Leads v (t ∷ ts) = v ≤ℤ t.value

-- each group's score, and its size
abbrev scores_by : (ℤ → ℤ) → List Tie → List ℤ
scores_by f ts = map (λ t. f t.value) ts

abbrev sizes_by : List Tie → List ℕ
sizes_by ts = map (λ t. t.count) ts

leads-more : (v w : ℤ) (ts : List Tie) → v ≤ℤ w → Leads w ts → Leads v (with_one_more w ts)
leads-more v w [] h l = h
leads-more v w (t ∷ ts) h l = by (int_lt w t.value) (int_eq w t.value)
  where
    chain : (a b c : ℤ) → a ≤ℤ b → b ≤ℤ c → a ≤ℤ c
    chain a b c h k = omega (arith, ints)

    by : (b c : Bool) → Leads v (cond b (record { value = w; count = 1 } ∷ t ∷ ts) (cond c (record { value = w; count = t.count + 1 } ∷ ts) (t ∷ with_one_more w ts)))
    by true c = h
    by false true = h
    by false false = chain v w t.value h l

leads : (v : ℤ) (vs : List ℤ) → AllByRecursion (λ w. v ≤ℤ w) vs → Rises vs → Leads v (tie_groups vs)
unfolding tie_groups
leads v [] all up = tt
leads v (w ∷ vs) all up = leads-more v w (tie_groups vs) all.0 (leads w vs up.0 up.1)

one-more : (n : ℕ) (x y : ℤ) (rest : List ℤ) → x ≡ y → replicate (n + 1) x ++ rest ≡ x ∷ (replicate n y ++ rest)
one-more n x y rest e = rw (add-one, e) refl

grown : (f : ℤ → ℤ) (v : ℤ) (ts : List Tie) → Leads v ts → subjects (scores_by f (with_one_more v ts)) (sizes_by (with_one_more v ts)) ≡ f v ∷ subjects (scores_by f ts) (sizes_by ts)
grown f v [] l = refl
grown f v (t ∷ ts) l = by (int_lt v t.value) refl (int_eq v t.value) refl
  where
    between : (a b : ℤ) → a ≤ℤ b → int_lt a b ≡ false → int_eq a b ≡ false → ⊥
    between a b h e g = let k = past a b e g in absurd (omega (arith, ints))

    by : (b : Bool) → int_lt v t.value ≡ b → (c : Bool) → int_eq v t.value ≡ c
        → subjects (scores_by f (cond b (record { value = v; count = 1 } ∷ t ∷ ts) (cond c (record { value = v; count = t.count + 1 } ∷ ts) (t ∷ with_one_more v ts)))) (sizes_by (cond b (record { value = v; count = 1 } ∷ t ∷ ts) (cond c (record { value = v; count = t.count + 1 } ∷ ts) (t ∷ with_one_more v ts)))) ≡ f v ∷ subjects (scores_by f (t ∷ ts)) (sizes_by (t ∷ ts))
    by true e c g = refl
    by false e true g = one-more t.count (f v) (f t.value) (subjects (scores_by f ts) (sizes_by ts)) (ap f (same-from_test v t.value g))
    by false e false g = absurd (between v t.value l e g)

pub grouped : (f : ℤ → ℤ) (values : List ℤ) → Rises values → subjects (map (λ t. f t.value) (tie_groups values)) (map (λ t. t.count) (tie_groups values)) ≡ map f values
unfolding tie_groups
grouped f [] up = refl
grouped f (v ∷ vs) up = grown f v (tie_groups vs) (leads v vs up.0 up.1) ∙ ap (λ rest. f v ∷ rest) (grouped f vs up.1)

-- of any values
pub columns-sum : (values : List ℤ) → sum (column_sizes values) ≡ length values
columns-sum values = sum-map (λ (t : Tie). t.count) (tie_groups values) ∙ values_in-groups values
