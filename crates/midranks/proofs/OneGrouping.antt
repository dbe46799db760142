-- Groups that ascend, are not empty, and give each sum over the values are the tie groups.
use Rattle.std.proofs.Common.{◌≡◌, ◌≢◌, ◌<◌, ◌+◌, ◌*◌, ℕ, ℤ, ◌<ℤ◌, Bool, true, false, cond, List, [], ◌∷◌, ◌⊎◌, inl, inr, refl, sym, ◌∙◌, ap, arith}
use Rattle.std.specs.Prelude.{int_lt}
use Rattle.std.specs.List.{AllByRecursion, sum_by}
use Rattle.std.specs.List.Sorted.{IsPermutation}
use Rattle.std.specs.Ordering.{int_eq}
use Rattle.std.proofs.lemmas.Int.{ints}
use Rattle.std.proofs.lemmas.List.Sorted.{sum_by-IsPermutation}
use Rattle.std.proofs.lemmas.List.Sums.{sum_by-cons}
use Rattle.weights.proofs.Filters.{all_weaker}
use Rattle.midranks.specs.Ties.{IsAscending, tie_groups}
use Rattle.midranks.specs.declared.ties.Tie.{Tie}
use Rattle.midranks.proofs.TieLemmas.{before-trans, groups-ascend, groups-counts, less-from_test, past, same-from_test, sum_by-groups, summed, test-other, test-same}

-- one at a value, else zero
here : ℤ → ℤ → ℕ
here v w = cond (int_eq w v) 1 0

here-same : (v : ℤ) → here v v ≡ 1
unfolding here
here-same v = rw (test-same v v refl) refl

here-other : (v w : ℤ) → w ≢ v → here v w ≡ 0
unfolding here
here-other v w h = rw (test-other w v h) refl

apart : (v w : ℤ) → v <ℤ w → w ≢ v
apart v w h e = absurd (omega (arith, ints))

-- a value less than those of all groups does not occur
none-before : (v : ℤ) (ts : List Tie) → AllByRecursion (λ t. v <ℤ t.value) ts → sum_by (summed (here v)) ts ≡ 0
none-before v [] later = refl
none-before v (t ∷ ts) later =
    let zero_here : here v t.value ≡ 0 = here-other v t.value (apart v t.value later.0) in
    sum_by-cons (summed (here v)) t ts ∙ nothing t.count (here v t.value) _ zero_here (none-before v ts later.1)
  where
    nothing : (c h s : ℕ) → h ≡ 0 → s ≡ 0 → c * h + s ≡ 0
    nothing c h s e f = rw (e, f) (omega arith)

-- how often the first group's value occurs
at-first : (t : Tie) (ts : List Tie) → IsAscending (t ∷ ts) → sum_by (summed (here t.value)) (t ∷ ts) ≡ t.count
at-first t ts up =
    sum_by-cons (summed (here t.value)) t ts ∙ all t.count (here t.value t.value) _ (here-same t.value) (none-before t.value ts up.0)
  where
    all : (c h s : ℕ) → h ≡ 1 → s ≡ 0 → c * h + s ≡ c
    all c h s e f = rw (e, f) (omega arith)

cases : (a b : ℤ) → (a ≡ b) ⊎ ((a <ℤ b) ⊎ (b <ℤ a))
cases a b = by (int_lt a b) refl (int_eq a b) refl
  where
    by : (p : Bool) → int_lt a b ≡ p → (q : Bool) → int_eq a b ≡ q → (a ≡ b) ⊎ ((a <ℤ b) ⊎ (b <ℤ a))
    by true e q f = inr (inl (less-from_test a b e))
    by false e true f = inl (same-from_test a b f)
    by false e false f = inr (inr (past a b e f))

once : (xs ys : List Tie) → IsAscending xs → IsAscending ys → AllByRecursion (λ t. 0 < t.count) xs → AllByRecursion (λ t. 0 < t.count) ys
    → ((f : ℤ → ℕ) → sum_by (summed f) xs ≡ sum_by (summed f) ys) → xs ≡ ys
once [] [] up up' some some' same = refl
once [] (y ∷ ys) up up' some some' same = absurd (omega (arith, same (here y.value), at-first y ys up', some'.0))
once (x ∷ xs) [] up up' some some' same = absurd (omega (arith, same (here x.value), at-first x xs up, some.0))
once (x ∷ xs) (y ∷ ys) up up' some some' same = by (λ rest. once xs ys up.1 up'.1 some.1 some'.1 rest) (cases x.value y.value)
  where
    lesser : (a b : Tie) (us vs : List Tie) → IsAscending (a ∷ us) → IsAscending (b ∷ vs) → 0 < a.count → sum_by (summed (here a.value)) (a ∷ us) ≡ sum_by (summed (here a.value)) (b ∷ vs) → a.value <ℤ b.value → ⊥
    lesser a b us vs up up' some e h =
        let none = none-before a.value (b ∷ vs) (h, all_weaker (λ t. b.value <ℤ t.value) (λ t. a.value <ℤ t.value) (λ t k. before-trans a.value b.value t.value h k) vs up'.0) in
        omega (arith, none, e, at-first a us up, some)

    heads : (v w : ℤ) (m n : ℕ) → v ≡ w → m ≡ n → (us vs : List Tie) → us ≡ vs → record { value = v; count = m } ∷ us ≡ record { value = w; count = n } ∷ vs
    heads v w m n e f us vs g = cc

    by : (((f : ℤ → ℕ) → sum_by (summed f) xs ≡ sum_by (summed f) ys) → xs ≡ ys) → (x.value ≡ y.value) ⊎ ((x.value <ℤ y.value) ⊎ (y.value <ℤ x.value)) → x ∷ xs ≡ y ∷ ys
    by later (inl e) =
        let counts : x.count ≡ y.count = sym (at-first x xs up) ∙ same (here x.value) ∙ ap (λ v. sum_by (summed (here v)) (y ∷ ys)) e ∙ at-first y ys up' in
        heads x.value y.value x.count y.count e counts xs ys
        (later (λ f. rest f (ap f e) counts (same f) (sum_by-cons (summed f) x xs) (sum_by-cons (summed f) y ys)))
      where
        rest : (f : ℤ → ℕ) → f x.value ≡ f y.value → x.count ≡ y.count → sum_by (summed f) (x ∷ xs) ≡ sum_by (summed f) (y ∷ ys)
            → sum_by (summed f) (x ∷ xs) ≡ x.count * f x.value + sum_by (summed f) xs → sum_by (summed f) (y ∷ ys) ≡ y.count * f y.value + sum_by (summed f) ys → sum_by (summed f) xs ≡ sum_by (summed f) ys
        rest f e c s a b = cancel x.count y.count (f x.value) (f y.value) _ _ c e (sym a ∙ s ∙ b)
          where
            cancel : (m n p q s t : ℕ) → m ≡ n → p ≡ q → m * p + s ≡ n * q + t → s ≡ t
            cancel m n p q s t e f h = let g : n * q + s ≡ n * q + t = rw (e, f) at h in omega arith
    by later (inr (inl h)) = absurd (lesser x y xs ys up up' some.0 (same (here x.value)) h)
    by later (inr (inr h)) = absurd (lesser y x ys xs up' up some'.0 (sym (same (here y.value))) h)

pub groups-are : (values : List ℤ) (ts : List Tie) → IsAscending ts → AllByRecursion (λ t. 0 < t.count) ts → ((f : ℤ → ℕ) → sum_by (summed f) ts ≡ sum_by f values) → ts ≡ tie_groups values
groups-are values ts up some same =
    once ts (tie_groups values) up (groups-ascend values) some (groups-counts values) (λ f. same f ∙ sym (sum_by-groups f values))

-- the order of the values does not matter
pub groups-permutation : (xs ys : List ℤ) → IsPermutation xs ys → tie_groups ys ≡ tie_groups xs
groups-permutation xs ys moved = groups-are xs (tie_groups ys) (groups-ascend ys) (groups-counts ys) (λ f. sum_by-groups f ys ∙ sum_by-IsPermutation f xs ys moved)
