-- Tie groups ascend, each has a value at least, and a sum over the values is one over the groups.
use Rattle.std.proofs.Common.{◌≡◌, ◌≢◌, ◌<◌, ◌+◌, ◌*◌, ℕ, ℤ, ◌<ℤ◌, ◌≤ℤ◌, Bool, true, false, cond, List, [], ◌∷◌, refl, sym, ◌∙◌, ap, arith}
use Rattle.std.specs.Prelude.{int_lt}
use Rattle.std.specs.List.{AllByRecursion, sum_by}
use Rattle.std.specs.Ordering.{int_eq}
use Rattle.std.proofs.lemmas.Bool.Decides.{Decides-int_eq}
use Rattle.std.proofs.lemmas.Int.{ints}
use Rattle.std.proofs.lemmas.List.Sums.{sum_by-cons}
use Rattle.weights.proofs.Filters.{all_weaker}
use Rattle.midranks.specs.Ties.{IsAscending, tie_groups, with_one_more}
use Rattle.midranks.specs.declared.ties.Tie.{Tie}

-- ---- tests of signed numbers

pub less-from_test : (a b : ℤ) → int_lt a b ≡ true → a <ℤ b
less-from_test a b e = grind (arith, ints)

pub not_less-from_test : (a b : ℤ) → int_lt a b ≡ false → b ≤ℤ a
not_less-from_test a b e = grind (arith, ints)

pub test-less : (a b : ℤ) → a <ℤ b → int_lt a b ≡ true
test-less a b h = grind (arith, ints)

pub test-not_less : (a b : ℤ) → b ≤ℤ a → int_lt a b ≡ false
test-not_less a b h = grind (arith, ints)

pub same-from_test : (a b : ℤ) → int_eq a b ≡ true → a ≡ b
same-from_test a b e = (Decides-int_eq a b).0 e

pub test-same : (a b : ℤ) → a ≡ b → int_eq a b ≡ true
test-same a b e = (Decides-int_eq a b).1 e

pub other-from_test : (a b : ℤ) → int_eq a b ≡ false → a ≢ b
other-from_test a b e same = let bad : true ≡ false = sym (test-same a b same) ∙ e in cc

pub test-other : (a b : ℤ) → a ≢ b → int_eq a b ≡ false
test-other a b h = by (int_eq a b) refl
  where
    by : (r : Bool) → int_eq a b ≡ r → r ≡ false
    by true e = absurd (h (same-from_test a b e))
    by false e = refl

pub past : (a b : ℤ) → int_lt a b ≡ false → int_eq a b ≡ false → b <ℤ a
past a b e f =
    let least = not_less-from_test a b e in
    let apart = other-from_test a b f in
    between a b least apart
  where
    between : (a b : ℤ) → b ≤ℤ a → a ≢ b → b <ℤ a
    between a b h n = omega (arith, ints)

pub before-trans : (a b c : ℤ) → a <ℤ b → b <ℤ c → a <ℤ c
before-trans a b c h k = omega (arith, ints)

-- ---- order

one_more-all : (P : ℤ → Type 0) (v : ℤ) (ts : List Tie) → P v → AllByRecursion (λ t. P t.value) ts → AllByRecursion (λ t. P t.value) (with_one_more v ts)
one_more-all P v [] one all = (one, tt)
one_more-all P v (t ∷ ts) one all = by (int_lt v t.value) (int_eq v t.value) (one_more-all P v ts one all.1)
  where
    by : (b c : Bool) → AllByRecursion (λ t. P t.value) (with_one_more v ts) → AllByRecursion (λ t. P t.value) (cond b (record { value = v; count = 1 } ∷ t ∷ ts) (cond c (record { value = v; count = t.count + 1 } ∷ ts) (t ∷ with_one_more v ts)))
    by true c rest = (one, all)
    by false true rest = (one, all.1)
    by false false rest = (all.0, rest)

one_more-ascends : (v : ℤ) (ts : List Tie) → IsAscending ts → IsAscending (with_one_more v ts)
one_more-ascends v [] up = (tt, tt)
one_more-ascends v (t ∷ ts) up = by (int_lt v t.value) refl (int_eq v t.value) refl (one_more-ascends v ts up.1)
  where
    by : (b : Bool) → int_lt v t.value ≡ b → (c : Bool) → int_eq v t.value ≡ c → IsAscending (with_one_more v ts) → IsAscending (cond b (record { value = v; count = 1 } ∷ t ∷ ts) (cond c (record { value = v; count = t.count + 1 } ∷ ts) (t ∷ with_one_more v ts)))
    by true e c f rest =
        let first = less-from_test v t.value e in
        ((first, all_weaker (λ u. t.value <ℤ u.value) (λ u. v <ℤ u.value) (λ u h. before-trans v t.value u.value first h) ts up.0), up)
    by false e true f rest = (rw (same-from_test v t.value f) up.0, up.1)
    by false e false f rest = (one_more-all (λ w. t.value <ℤ w) v ts (past v t.value e f) up.0, rest)

pub groups-ascend : (values : List ℤ) → IsAscending (tie_groups values)
unfolding tie_groups
groups-ascend [] = tt
groups-ascend (v ∷ vs) = one_more-ascends v (tie_groups vs) (groups-ascend vs)

-- ---- counts

one_more-counts : (v : ℤ) (ts : List Tie) → AllByRecursion (λ t. 0 < t.count) ts → AllByRecursion (λ t. 0 < t.count) (with_one_more v ts)
one_more-counts v [] some = (omega arith, tt)
one_more-counts v (t ∷ ts) some = by (int_lt v t.value) (int_eq v t.value) (one_more-counts v ts some.1)
  where
    by : (b c : Bool) → AllByRecursion (λ t. 0 < t.count) (with_one_more v ts) → AllByRecursion (λ t. 0 < t.count) (cond b (record { value = v; count = 1 } ∷ t ∷ ts) (cond c (record { value = v; count = t.count + 1 } ∷ ts) (t ∷ with_one_more v ts)))
    by true c rest = (omega arith, some)
    by false true rest = (omega arith, some.1)
    by false false rest = (some.0, rest)

pub groups-counts : (values : List ℤ) → AllByRecursion (λ t. 0 < t.count) (tie_groups values)
unfolding tie_groups
groups-counts [] = tt
groups-counts (v ∷ vs) = one_more-counts v (tie_groups vs) (groups-counts vs)

-- ---- sums

-- what a group adds to a sum over the values
abbrev pub summed : (ℤ → ℕ) → Tie → ℕ
summed f t = t.count * f t.value

one_more-sum : (f : ℤ → ℕ) (v : ℤ) (ts : List Tie) → sum_by (summed f) (with_one_more v ts) ≡ f v + sum_by (summed f) ts
one_more-sum f v [] = sum_by-cons (summed f) (record { value = v; count = 1 }) [] ∙ omega arith
one_more-sum f v (t ∷ ts) = by (int_lt v t.value) (int_eq v t.value) refl (one_more-sum f v ts)
  where
    here : sum_by (summed f) (t ∷ ts) ≡ t.count * f t.value + sum_by (summed f) ts
    here = sum_by-cons (summed f) t ts

    by : (b c : Bool) → int_eq v t.value ≡ c → sum_by (summed f) (with_one_more v ts) ≡ f v + sum_by (summed f) ts
        → sum_by (summed f) (cond b (record { value = v; count = 1 } ∷ t ∷ ts) (cond c (record { value = v; count = t.count + 1 } ∷ ts) (t ∷ with_one_more v ts))) ≡ f v + sum_by (summed f) (t ∷ ts)
    by true c e rest = sum_by-cons (summed f) (record { value = v; count = 1 }) (t ∷ ts) ∙ omega arith
    by false true e rest =
        let same : f v ≡ f t.value = ap f (same-from_test v t.value e) in
        sum_by-cons (summed f) (record { value = v; count = t.count + 1 }) ts ∙ more t.count (f v) (f t.value) (sum_by (summed f) ts) _ same here
      where
        more : (c x y s u : ℕ) → x ≡ y → u ≡ c * y + s → (c + 1) * x + s ≡ x + u
        more c x y s u e h = rw (e, h) (omega arith)
    by false false e rest = sum_by-cons (summed f) t (with_one_more v ts) ∙ omega (arith, rest, here)

-- a sum over the values is the sum over their groups
pub sum_by-groups : (f : ℤ → ℕ) (values : List ℤ) → sum_by (summed f) (tie_groups values) ≡ sum_by f values
unfolding tie_groups
sum_by-groups f [] = refl
sum_by-groups f (v ∷ vs) = one_more-sum f v (tie_groups vs) ∙ ap (λ s. f v + s) (sum_by-groups f vs) ∙ sym (sum_by-cons f v vs)
