-- Runs of equal values of an ascending list, one value more at a time.
use Rattle.std.proofs.Common.{◌≡◌, ◌≢◌, ◌<◌, ◌≤◌, ◌+◌, ◌*◌, ◌++◌, ℕ, ℤ, ◌<ℤ◌, ◌≤ℤ◌, pos, Bool, true, false, List, [], ◌∷◌, length, get_or, take, refl, sym, ◌∙◌, ap, arith}
use Rattle.std.specs.Prelude.{int_lt}
use Rattle.std.specs.List.{AllByRecursion, sum_by}
use Rattle.std.specs.List.Sorted.{IsSorted}
use Rattle.std.specs.Ordering.{int_cmp, is_lt}
use Rattle.std.proofs.lemmas.Int.{ints}
use Rattle.std.proofs.lemmas.List.{take_all}
use Rattle.std.proofs.lemmas.List.Sums.{sum_by_push, sum_by_more}
use Rattle.weights.proofs.Filters.{all_weaker, all_push}
use Rattle.midranks.specs.Ties.{IsAscending, tie_groups}
use Rattle.midranks.specs.declared.ties.Tie.{Tie}
use Rattle.midranks.proofs.OneGrouping.{groups-are}
use Rattle.midranks.proofs.TieLemmas.{before-trans, not_less-from_test, summed}

push-ascends : (ts : List Tie) (t : Tie) → IsAscending ts → AllByRecursion (λ u. u.value <ℤ t.value) ts → IsAscending (ts ++ t ∷ [])
push-ascends [] t up below = (tt, tt)
push-ascends (u ∷ us) t up below = (all_push (λ w. u.value <ℤ w.value) us t up.0 below.0, push-ascends us t up.1 below.1)

-- a value that is not the next one is less than it
next-greater : (xs : List ℤ) (i : ℕ) (d : ℤ) → IsSorted int_cmp xs → i + 1 < length xs → get_or xs i d ≢ get_or xs (i + 1) d → get_or xs i d <ℤ get_or xs (i + 1) d
next-greater xs i d sorted h apart = by (get_or xs i d) (get_or xs (i + 1) d) apart (sorted i d (omega arith) h)
  where
    by : (a b : ℤ) → a ≢ b → is_lt (int_cmp b a) ≡ false → a <ℤ b
    by a b n e =
        let least : a ≤ℤ b = at-most a b (int_lt b a) refl e in
        between a b least n
      where
        at-most : (a b : ℤ) (r : Bool) → int_lt b a ≡ r → is_lt (int_cmp b a) ≡ false → a ≤ℤ b
        at-most a b true t e = let bad : true ≡ false = rw t at e in cc
        at-most a b false t e = not_less-from_test b a t

        between : (a b : ℤ) → a ≤ℤ b → a ≢ b → a <ℤ b
        between a b h n = omega (arith, ints)

-- the group of a run that ends closes it
run-ends : (f : ℤ → ℕ) (ts : List Tie) (xs : List ℤ) (i c : ℕ) (v : ℤ) → i < length xs → v ≡ get_or xs i (pos 0) → sum_by (summed f) ts + c * f (get_or xs i (pos 0)) ≡ sum_by f (take i xs)
    → sum_by (summed f) (ts ++ record { value = v; count = c + 1 } ∷ []) ≡ sum_by f (take (i + 1) xs)
run-ends f ts xs i c v h e s =
    sum_by_push (summed f) ts (record { value = v; count = c + 1 }) ∙ more _ c (f v) _ _ (ap f e) s ∙ sym (sum_by_more f xs i (pos 0) h)
  where
    more : (s c x y u : ℕ) → x ≡ y → s + c * y ≡ u → s + (c + 1) * x ≡ u + y
    more s c x y u e h = rw e (omega (arith, h))

-- a run that goes on counts one value more
run-goes_on : (f : ℤ → ℕ) (s c i : ℕ) (xs : List ℤ) → i < length xs → get_or xs i (pos 0) ≡ get_or xs (i + 1) (pos 0) → s + c * f (get_or xs i (pos 0)) ≡ sum_by f (take i xs)
    → s + (c + 1) * f (get_or xs (i + 1) (pos 0)) ≡ sum_by f (take (i + 1) xs)
run-goes_on f s c i xs h e k = more s c (f (get_or xs i (pos 0))) (f (get_or xs (i + 1) (pos 0))) _ (ap f e) k ∙ sym (sum_by_more f xs i (pos 0) h)
  where
    more : (s c x y u : ℕ) → x ≡ y → s + c * x ≡ u → s + (c + 1) * y ≡ u + x
    more s c x y u e h = rw (← e) (omega (arith, h))

-- The values before place i are in groups, but for the last `count` of them, which equal the value at i.
pub record GroupedBefore (sorted : List ℤ) (i : ℕ) (ties : List Tie) (count : ℕ) : Type 0 where
  pub counted : count ≤ i
  pub ended : length sorted ≤ i → count ≡ 0
  pub ascending : IsAscending ties
  pub some : AllByRecursion (λ t. 0 < t.count) ties
  pub lesser : i < length sorted → AllByRecursion (λ t. t.value <ℤ get_or sorted i (pos 0)) ties
  pub sums : (f : ℤ → ℕ) → sum_by (summed f) ties + count * f (get_or sorted i (pos 0)) ≡ sum_by f (take i sorted)

pub grouped-none : (sorted : List ℤ) → GroupedBefore sorted 0 [] 0
grouped-none sorted = record {
  counted = omega arith;
  ended = λ h. refl;
  ascending = tt;
  some = tt;
  lesser = λ h. tt;
  sums = λ f. omega arith;
}

pub grouped-closed : (sorted : List ℤ) (i : ℕ) (ties : List Tie) (count : ℕ) (v : ℤ) → IsSorted int_cmp sorted → i < length sorted → v ≡ get_or sorted i (pos 0)
    → (i + 1 < length sorted → get_or sorted i (pos 0) ≢ get_or sorted (i + 1) (pos 0)) → GroupedBefore sorted i ties count → GroupedBefore sorted (i + 1) (ties ++ record { value = v; count = count + 1 } ∷ []) 0
grouped-closed sorted i ties count v order h e apart before =
    let lower = before.lesser h in
    record {
      counted = omega arith;
      ended = λ end. refl;
      ascending = push-ascends ties (record { value = v; count = count + 1 }) before.ascending (rw e lower);
      some = all_push (λ t. 0 < t.count) ties (record { value = v; count = count + 1 }) before.some (omega arith);
      lesser = λ next. let step = next-greater sorted i (pos 0) order next (apart next) in
          all_push (λ t. t.value <ℤ get_or sorted (i + 1) (pos 0)) ties (record { value = v; count = count + 1 })
          (all_weaker (λ t. t.value <ℤ get_or sorted i (pos 0)) (λ t. t.value <ℤ get_or sorted (i + 1) (pos 0)) (λ t k. before-trans t.value _ _ k step) ties lower)
          (rw e step);
      sums = λ f. nothing _ _ _ (run-ends f ties sorted i count v h e (before.sums f));
    }
  where
    nothing : (s y u : ℕ) → s ≡ u → s + 0 * y ≡ u
    nothing s y u e = omega arith

pub grouped-more : (sorted : List ℤ) (i : ℕ) (ties : List Tie) (count : ℕ) → i + 1 < length sorted → get_or sorted i (pos 0) ≡ get_or sorted (i + 1) (pos 0)
    → GroupedBefore sorted i ties count → GroupedBefore sorted (i + 1) ties (count + 1)
grouped-more sorted i ties count next e before =
    let counted = before.counted in
    record {
      counted = omega arith;
      ended = λ end. absurd (omega arith);
      ascending = before.ascending;
      some = before.some;
      lesser = λ h. rw (← e) (before.lesser (omega arith));
      sums = λ f. run-goes_on f _ count i sorted (omega arith) e (before.sums f);
    }

pub grouped-all : (sorted : List ℤ) (i : ℕ) (ties : List Tie) (count : ℕ) → length sorted ≤ i → GroupedBefore sorted i ties count → ties ≡ tie_groups sorted
grouped-all sorted i ties count end before =
    groups-are sorted ties before.ascending before.some (λ f. closed _ count _ _ (before.ended end) (before.sums f) ∙ ap (sum_by f) (take_all i sorted end))
  where
    closed : (s c y u : ℕ) → c ≡ 0 → s + c * y ≡ u → s ≡ u
    closed s c y u e h = let k : s + 0 * y ≡ u = rw e at h in omega arith
