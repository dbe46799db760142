-- Where the values of a tie group stand: how many values are less than its value, and how many equal it, by groups.
use Rattle.std.proofs.Common.{◌≡◌, ◌<◌, ◌≤◌, ◌+◌, ◌*◌, ℕ, ℤ, ◌<ℤ◌, ◌≤ℤ◌, Bool, true, false, cond, List, [], ◌∷◌, ◌⊎◌, inl, inr, length, get_or, zero, suc, map, refl, sym, ◌∙◌, ap, arith}
use Rattle.std.specs.Prelude.{int_lt}
use Rattle.std.specs.List.{AllByRecursion, Any, HoldsAt, sum_by}
use Rattle.std.specs.List.Sorted.{IsPartitionPoint, IsPartitionedBy}
use Rattle.std.specs.Ordering.{int_eq}
use Rattle.std.proofs.lemmas.Bool.{cases_lt}
use Rattle.std.proofs.lemmas.Int.{ints}
use Rattle.std.proofs.lemmas.List.{get_or_default}
use Rattle.std.proofs.lemmas.List.Elements.{All-from_recursion}
use Rattle.std.proofs.lemmas.List.Sums.{get_or-le-sum_by, sum_by-cons}
use Rattle.midranks.specs.Midranks.{doubled_midrank, number_below, number_equal}
use Rattle.midranks.specs.MidrankSteps.{ranks_after}
use Rattle.midranks.specs.Ties.{AreCounted, IsAscending, tie_groups, values_in}
use Rattle.midranks.specs.declared.ties.Tie.{Tie}
use Rattle.midranks.proofs.TieLemmas.{groups-ascend, groups-counts, less-from_test, not_less-from_test, other-from_test, same-from_test, sum_by-groups, summed, test-less, test-not_less, test-other, test-same}

abbrev one_if : Bool → ℕ
one_if b = cond b 1 0

-- one for the values less than v, else zero; and for those equal to it
pub lesser : ℤ → ℤ → ℕ
lesser v w = cond (int_lt w v) 1 0

pub equal : ℤ → ℤ → ℕ
equal v w = cond (int_eq w v) 1 0

-- how many values of groups are less than v, and how many equal it
pub below_in : List Tie → ℤ → ℕ
below_in ts v = sum_by (summed (lesser v)) ts

pub equal_in : List Tie → ℤ → ℕ
equal_in ts v = sum_by (summed (equal v)) ts

pub number_below-groups : (values : List ℤ) (v : ℤ) → number_below values v ≡ below_in (tie_groups values) v
unfolding number_below below_in lesser
number_below-groups values v = sym (sum_by-groups (lesser v) values)

pub number_equal-groups : (values : List ℤ) (v : ℤ) → number_equal values v ≡ equal_in (tie_groups values) v
unfolding number_equal equal_in equal
number_equal-groups values v = sym (sum_by-groups (equal v) values)

pub values_in-groups : (values : List ℤ) → values_in (tie_groups values) ≡ length values
values_in-groups values = counts (tie_groups values) ∙ sum_by-groups (λ v. 1) values ∙ ones values
  where
    counts : (ts : List Tie) → values_in ts ≡ sum_by (summed (λ v. 1)) ts
    counts [] = refl
    counts (t ∷ ts) = sum_by-cons (λ t. t.count) t ts ∙ one t.count _ _ (counts ts) ∙ sym (sum_by-cons (summed (λ v. 1)) t ts)
      where
        one : (c s u : ℕ) → s ≡ u → c + s ≡ c * 1 + u
        one c s u e = omega arith

    ones : (vs : List ℤ) → sum_by (λ v. 1) vs ≡ length vs
    ones [] = refl
    ones (v ∷ vs) = sum_by-cons (λ v. 1) v vs ∙ omega (arith, ones vs)

cons-below : (t : Tie) (ts : List Tie) (v : ℤ) → below_in (t ∷ ts) v ≡ t.count * lesser v t.value + below_in ts v
unfolding below_in
cons-below t ts v = sum_by-cons (summed (lesser v)) t ts

cons-equal : (t : Tie) (ts : List Tie) (v : ℤ) → equal_in (t ∷ ts) v ≡ t.count * equal v t.value + equal_in ts v
unfolding equal_in
cons-equal t ts v = sum_by-cons (summed (equal v)) t ts

lesser-yes : (v w : ℤ) → w <ℤ v → lesser v w ≡ 1
unfolding lesser
lesser-yes v w h = rw (test-less w v h) refl

lesser-no : (v w : ℤ) → v ≤ℤ w → lesser v w ≡ 0
unfolding lesser
lesser-no v w h = rw (test-not_less w v h) refl

equal-yes : (v : ℤ) → equal v v ≡ 1
unfolding equal
equal-yes v = rw (test-same v v refl) refl

equal-no : (v w : ℤ) → (w ≡ v → ⊥) → equal v w ≡ 0
unfolding equal
equal-no v w h = rw (test-other w v h) refl

self : (v : ℤ) → v ≤ℤ v
self v = omega (arith, ints)

weaken : (v w : ℤ) → v <ℤ w → v ≤ℤ w
weaken v w h = omega (arith, ints)

apart : (v w : ℤ) → v <ℤ w → w ≡ v → ⊥
apart v w h e = absurd (omega (arith, ints))

apart' : (v w : ℤ) → v <ℤ w → v ≡ w → ⊥
apart' v w h e = absurd (omega (arith, ints))

-- c times one, and c times nothing, and a sum
once : (c h s u : ℕ) → h ≡ 1 → s ≡ u → c * h + s ≡ c + u
once c h s u e f = rw (e, f) (omega arith)

nothing : (c h s u : ℕ) → h ≡ 0 → s ≡ u → c * h + s ≡ u
nothing c h s u e f = rw (e, f) (omega arith)

none-below : (ts : List Tie) (v : ℤ) → AllByRecursion (λ u. v <ℤ u.value) ts → below_in ts v ≡ 0
unfolding below_in
none-below [] v later = refl
none-below (t ∷ ts) v later = cons-below t ts v ∙ nothing t.count _ _ 0 (lesser-no v t.value (weaken v t.value later.0)) (none-below ts v later.1)

none-equal : (ts : List Tie) (v : ℤ) → AllByRecursion (λ u. v <ℤ u.value) ts → equal_in ts v ≡ 0
unfolding equal_in
none-equal [] v later = refl
none-equal (t ∷ ts) v later = cons-equal t ts v ∙ nothing t.count _ _ 0 (equal-no v t.value (apart v t.value later.0)) (none-equal ts v later.1)

-- no value is less than the first group's, and as many as it counts equal it
pub below-first : (t : Tie) (ts : List Tie) → IsAscending (t ∷ ts) → below_in (t ∷ ts) t.value ≡ 0
below-first t ts up = cons-below t ts t.value ∙ nothing t.count _ _ 0 (lesser-no t.value t.value (self t.value)) (none-below ts t.value up.0)

pub equal-first : (t : Tie) (ts : List Tie) → IsAscending (t ∷ ts) → equal_in (t ∷ ts) t.value ≡ t.count
equal-first t ts up = cons-equal t ts t.value ∙ once t.count _ _ 0 (equal-yes t.value) (none-equal ts t.value up.0) ∙ omega arith

-- below a later value are the first group's values too
pub below-later : (t : Tie) (ts : List Tie) (v : ℤ) → t.value <ℤ v → below_in (t ∷ ts) v ≡ t.count + below_in ts v
below-later t ts v h = cons-below t ts v ∙ once t.count _ _ _ (lesser-yes v t.value h) refl

pub equal-later : (t : Tie) (ts : List Tie) (v : ℤ) → t.value <ℤ v → equal_in (t ∷ ts) v ≡ equal_in ts v
equal-later t ts v h = cons-equal t ts v ∙ nothing t.count _ _ _ (equal-no v t.value (apart' t.value v h)) refl

pub map-same_where : {X Y : Type 0} (P : X → Type 0) (f g : X → Y) → ((x : X) → P x → f x ≡ g x) → (xs : List X) → AllByRecursion P xs → map f xs ≡ map g xs
map-same_where P f g e [] all = refl
map-same_where P f g e (x ∷ xs) all = rw (e x all.0, map-same_where P f g e xs all.1) refl

-- ---- doubled midranks

ranks_after-are : (before : ℕ) (ts : List Tie) → IsAscending ts → ranks_after before ts ≡ map (λ t. 2 * (before + below_in ts t.value) + equal_in ts t.value + 1) ts
ranks_after-are before [] up = refl
ranks_after-are before (t ∷ ts) up =
    both _ _ _ _ (head before t.count _ _ (below-first t ts up) (equal-first t ts up))
    (ranks_after-are (before + t.count) ts up.1
    ∙ map-same_where (λ u. t.value <ℤ u.value) _ (λ u. 2 * (before + below_in (t ∷ ts) u.value) + equal_in (t ∷ ts) u.value + 1)
    (λ u h. later before t.count _ _ _ _ (below-later t ts u.value h) (equal-later t ts u.value h)) ts up.0)
  where
    both : (a b : ℕ) (us vs : List ℕ) → a ≡ b → us ≡ vs → a ∷ us ≡ b ∷ vs
    both a b us vs e f = cc

    head : (m c b e : ℕ) → b ≡ 0 → e ≡ c → 2 * m + c + 1 ≡ 2 * (m + b) + e + 1
    head m c b e h k = omega arith

    later : (m c b e p q : ℕ) → p ≡ c + b → q ≡ e → 2 * (m + c + b) + e + 1 ≡ 2 * (m + p) + q + 1
    later m c b e p q h k = omega arith

-- the doubled midranks of the tie groups are those of their values
pub ranks-are : (values : List ℤ) → ranks_after 0 (tie_groups values) ≡ map (λ t. doubled_midrank values t.value) (tie_groups values)
unfolding doubled_midrank
ranks-are values = ranks_after-are 0 (tie_groups values) (groups-ascend values) ∙ map-same (tie_groups values)
  where
    same : (b e p q : ℕ) → p ≡ b → q ≡ e → 2 * (0 + b) + e + 1 ≡ 2 * p + q + 1
    same b e p q h k = omega arith

    map-same : (ts : List Tie) → map (λ t. 2 * (0 + below_in (tie_groups values) t.value) + equal_in (tie_groups values) t.value + 1) ts ≡ map (λ t. doubled_midrank values t.value) ts
    map-same [] = refl
    map-same (t ∷ ts) = rw (same _ _ _ _ (number_below-groups values t.value) (number_equal-groups values t.value), map-same ts) refl

-- ---- the group of a value

-- a value that is counted has a group
occurs : (ts : List Tie) (v : ℤ) → 1 ≤ equal_in ts v → Any (λ t. t.value ≡ v) ts
unfolding equal_in
occurs [] v some = absurd (omega arith)
occurs (t ∷ ts) v some = by (int_eq t.value v) refl (occurs ts v)
  where
    by : (b : Bool) → int_eq t.value v ≡ b → (1 ≤ equal_in ts v → Any (λ t. t.value ≡ v) ts) → Any (λ t. t.value ≡ v) (t ∷ ts)
    by true e later = (0, t, omega arith, refl, same-from_test t.value v e)
    by false e later =
        let rest = later (omega (arith, some, cons-equal t ts v ∙ nothing t.count _ _ _ (equal-no v t.value (other-from_test t.value v e)) refl)) in
        (suc rest.0, rest.1, omega (arith, rest.2), rest.3, rest.4)

-- a value of the list equals one of its values at least
pub number_equal-some : (values : List ℤ) (i : ℕ) (d : ℤ) → i < length values → 1 ≤ number_equal values (get_or values i d)
unfolding number_equal
number_equal-some values i d h =
    let v = get_or values i d in
    let self : one_if (int_eq v v) ≡ 1 = rw (test-same v v refl) refl in
    omega (arith, self, get_or-le-sum_by (λ w. cond (int_eq w v) 1 0) values i d h)

pub group-exists : (values : List ℤ) (i : ℕ) (d : ℤ) → i < length values → Any (λ t. t.value ≡ get_or values i d) (tie_groups values)
group-exists values i d h = occurs (tie_groups values) (get_or values i d) (omega (arith, number_equal-some values i d h, number_equal-groups values (get_or values i d)))

-- the groups of a list count how often their values occur in it
groups-often : (ts : List Tie) → IsAscending ts → AllByRecursion (λ t. t.count ≡ equal_in ts t.value) ts
groups-often [] up = tt
groups-often (t ∷ ts) up = (sym (equal-first t ts up), later ts up.0 (groups-often ts up.1))
  where
    later : (us : List Tie) → AllByRecursion (λ u. t.value <ℤ u.value) us → AllByRecursion (λ u. u.count ≡ equal_in ts u.value) us → AllByRecursion (λ u. u.count ≡ equal_in (t ∷ ts) u.value) us
    later [] above same = tt
    later (u ∷ us) above same = (same.0 ∙ sym (equal-later t ts u.value above.0), later us above.1 same.1)

pub groups-counted : (values : List ℤ) → AreCounted values (tie_groups values)
groups-counted values = record {
  some = All-from_recursion (λ t. 0 < t.count) (tie_groups values) (groups-counts values);
  often = λ k d h. All-from_recursion (λ t. t.count ≡ equal_in (tie_groups values) t.value) (tie_groups values) (groups-often (tie_groups values) (groups-ascend values)) k d h ∙ sym (number_equal-groups values (get_or (tie_groups values) k d).value);
  each = group-exists values;
}

-- the lesser and the equal values are some of the values
pub below_and_equal : (values : List ℤ) (v : ℤ) → number_below values v + number_equal values v ≤ length values
unfolding number_below number_equal
below_and_equal [] v = omega arith
below_and_equal (w ∷ ws) v =
    omega (arith, sum_by-cons (λ w. cond (int_lt w v) 1 0) w ws, sum_by-cons (λ w. cond (int_eq w v) 1 0) w ws, below_and_equal ws v, one w v)
  where
    one : (w v : ℤ) → one_if (int_lt w v) + one_if (int_eq w v) ≤ 1
    one w v = by (int_lt w v) refl
      where
        by : (b : Bool) → int_lt w v ≡ b → one_if b + one_if (int_eq w v) ≤ 1
        by true e = rw (test-other w v (apart' w v (less-from_test w v e))) (omega arith)
        by false e = cases (int_eq w v)
          where
            cases : (c : Bool) → 0 + one_if c ≤ 1
            cases true = omega arith
            cases false = omega arith

pub doubled_midrank-most : (values : List ℤ) (i : ℕ) (d : ℤ) → i < length values → doubled_midrank values (get_or values i d) ≤ 2 * length values
unfolding doubled_midrank
doubled_midrank-most values i d h = omega (arith, below_and_equal values (get_or values i d), number_equal-some values i d h)

pub ascending-at : (ts : List Tie) (i j : ℕ) (d : Tie) → IsAscending ts → i < j → j < length ts → (get_or ts i d).value <ℤ (get_or ts j d).value
ascending-at [] i j d up h l = absurd (omega arith)
ascending-at (t ∷ ts) i zero d up h l = absurd (omega arith)
ascending-at (t ∷ ts) zero (suc j) d up h l = All-from_recursion (λ u. t.value <ℤ u.value) ts up.0 j d (omega arith)
ascending-at (t ∷ ts) (suc i) (suc j) d up h l = ascending-at ts i j d up.1 (omega arith) (omega arith)

pub groups-partitioned : (ts : List Tie) (v : ℤ) → IsAscending ts → IsPartitionedBy (λ t. int_lt t.value v) ts
groups-partitioned ts v up i j d le l e = by (cases_lt i j)
  where
    by : (i < j) ⊎ (j ≤ i) → int_lt (get_or ts i d).value v ≡ true
    by (inl h) = test-less _ v (chain _ _ v (ascending-at ts i j d up h l) (less-from_test _ v e))
      where
        chain : (a b c : ℤ) → a <ℤ b → b <ℤ c → a <ℤ c
        chain a b c h k = omega (arith, ints)
    by (inr h) = let same : i ≡ j = omega arith in rw same e

-- a group whose value is sought stands where the lesser groups end
pub group-found : (ts : List Tie) (v : ℤ) (p : ℕ) → IsAscending ts → Any (λ t. t.value ≡ v) ts
    → IsPartitionPoint (λ t. int_lt t.value v ≡ true) (λ t. int_lt t.value v ≡ false) ts p → (p < length ts) × HoldsAt (λ t. t.value ≡ v) ts p
group-found ts v p up (k, x, within, is, e) point = by (cases_lt k p) (cases_lt p k)
  where
    at : (get_or ts k x).value ≡ v
    at = ap (λ (t : Tie). t.value) is ∙ e

    by : (k < p) ⊎ (p ≤ k) → (p < k) ⊎ (k ≤ p) → (p < length ts) × HoldsAt (λ t. t.value ≡ v) ts p
    by (inl h) q = absurd (less_itself _ v at (point.0 k x (omega arith) h))
      where
        less_itself : (a b : ℤ) → a ≡ b → int_lt a b ≡ true → ⊥
        less_itself a b e t = let h : a <ℤ b = less-from_test a b t in absurd (omega (arith, ints))
    by (inr h) (inl q) = absurd (between _ _ v at (ascending-at ts p k x up q within) (point.1 p x (omega arith) (omega arith)))
      where
        between : (a b v : ℤ) → b ≡ v → a <ℤ b → int_lt a v ≡ false → ⊥
        between a b v e h t = let k : v ≤ℤ a = not_less-from_test a v t in absurd (omega (arith, ints))
    by (inr h) (inr q) =
        let same : k ≡ p = omega arith in
        (omega arith, λ d. rw (← same) (ap (λ (t : Tie). t.value) (get_or_default ts k d x within) ∙ at))
