-- The place of a value among distinct ones: the number of its group.
use Rattle.std.proofs.Common.{◌≡◌, ◌≢◌, ℕ, zero, suc, ◌+◌, ◌*◌, ◌<◌, ◌≤◌, List, [], ◌∷◌, length, map, get_or, refl, sym, ◌∙◌, ap, subst, arith, cond, nat_eq, eq-eqb, ne_eqb}
use Rattle.std.specs.Prelude.{ℤ, pos, ◌<ℤ◌, int_lt}
use Rattle.std.specs.List.{All, AllByRecursion, HoldsAt, range_with_len, sum, sum_by}
use Rattle.std.proofs.lemmas.Int.{ints}
use Rattle.std.proofs.lemmas.List.{get_or_default, length-map}
use Rattle.std.proofs.lemmas.List.Elements.{recursion_from_All}
use Rattle.std.proofs.lemmas.List.Sums.{sum_by-cons}
use Rattle.weights.specs.Labellings.{counts_of, labels}
use Rattle.weights.proofs.Counted.{count_of}
use Rattle.weights.proofs.Filters.{all_map, map-same, all_weaker}
use Rattle.weights.proofs.Sums.{sum_by-map}
use Rattle.midranks.specs.Ties.{IsAscending, tie_groups}
use Rattle.midranks.specs.declared.ties.Tie.{Tie}
use Rattle.midranks.proofs.Places.{group-exists}
use Rattle.midranks.proofs.TieLemmas.{groups-ascend, groups-counts, sum_by-groups, summed, test-less, test-not_less}
use Rattle.pooled_columns.specs.PooledColumns.{column_sizes}
use Rattle.pooled_columns.proofs.TieColumns.{columns-sum}
use Rattle.kendall_test.specs.Kendall.{place_among, places_of}
use Rattle.kendall_test.proofs.CodeLaws.{sum-first}

abbrev pub no_tie : Tie
no_tie = record { value = pos 0; count = 0 }

pub below : (v : ℤ) (t : Tie) (ts : List Tie) → place_among (t ∷ ts) v ≡ cond (int_lt t.value v) 1 0 + place_among ts v
below v t ts = sum_by-cons (λ (t : Tie). cond (int_lt t.value v) 1 0) t ts

value-above : (x : ℤ) (ts : List Tie) (i : ℕ) → i < length ts → AllByRecursion (λ t. x <ℤ t.value) ts → x <ℤ (get_or ts i no_tie).value
value-above x [] i h a = absurd (omega (arith, h))
value-above x (t ∷ ts) zero h a = a.0
value-above x (t ∷ ts) (suc i) h a = value-above x ts i (omega (arith, h)) a.1

none-below : (v : ℤ) (ts : List Tie) → AllByRecursion (λ t. v <ℤ t.value) ts → place_among ts v ≡ 0
none-below v [] a = refl
none-below v (t ∷ ts) a = below v t ts ∙ rw (test-not_less t.value v (omega (arith, ints, a.0)), none-below v ts a.1) refl

pub place-found : (ts : List Tie) (v : ℤ) (i : ℕ) → IsAscending ts → i < length ts → HoldsAt (λ t. t.value ≡ v) ts i → i ≡ place_among ts v
place-found ts v i up h found = sym (place ts i up h (found no_tie))
  where
    place : (ts : List Tie) (i : ℕ) → IsAscending ts → i < length ts → (get_or ts i no_tie).value ≡ v → place_among ts v ≡ i
    place [] i up h e = absurd (omega (arith, h))
    place (t ∷ ts) zero up h e = below v t ts ∙ rw (test-not_less t.value v (omega (arith, ints, e)), none-below v ts (subst (λ x. AllByRecursion (λ u. x <ℤ u.value) ts) e up.0)) refl
    place (t ∷ ts) (suc i) up h e =
        let less : t.value <ℤ v = subst (λ x. t.value <ℤ x) e (value-above t.value ts i (omega (arith, h)) up.0) in
        below v t ts ∙ rw (test-less t.value v less, place ts i up.1 (omega (arith, h)) e) (omega arith)

-- ---- how many distinct values there are

some-each : (ts : List Tie) → AllByRecursion (λ t. 0 < t.count) ts → length ts ≤ sum (map (λ (t : Tie). t.count) ts)
some-each [] a = omega arith
some-each (t ∷ ts) a = omega (arith, some-each ts a.1, a.0, sum-first t.count (map (λ (t : Tie). t.count) ts))

pub groups-few : (values : List ℤ) → length (tie_groups values) ≤ length values
groups-few values = omega (arith, some-each (tie_groups values) (groups-counts values), columns-sum values)

-- each place is that of a group
pub places-below : (values : List ℤ) → AllByRecursion (λ l. l < length (tie_groups values)) (places_of values)
places-below values = all_map (λ l. l < length (tie_groups values)) (place_among (tie_groups values)) values (recursion_from_All (λ v. place_among (tie_groups values) v < length (tie_groups values)) values each)
  where
    each : All (λ v. place_among (tie_groups values) v < length (tie_groups values)) values
    each k d h =
        let g = group-exists values k d h in
        let at : (get_or (tie_groups values) g.0 g.1).value ≡ get_or values k d = ap (λ (t : Tie). t.value) g.3 ∙ g.4 in
        omega (arith, g.2, place-found (tie_groups values) (get_or values k d) g.0 (groups-ascend values) g.2 (λ e. ap (λ (t : Tie). t.value) (get_or_default (tie_groups values) g.0 e g.1 g.2) ∙ at))

-- ---- how often each place occurs

-- the groups' values have these places, from the first on
abbrev AreNumbered : (ℤ → ℕ) → ℕ → List Tie → Type 0
AreNumbered p s [] = Unit {0}
AreNumbered p s (t ∷ ts) = (p t.value ≡ s) × AreNumbered p (s + 1) ts

shifted : (p q : ℤ → ℕ) (s : ℕ) (ts : List Tie) → AllByRecursion (λ (u : Tie). q u.value ≡ 1 + p u.value) ts → AreNumbered p s ts → AreNumbered q (1 + s) ts
shifted p q s [] a n = tt
shifted p q s (t ∷ ts) a n =
    let swap : 1 + (s + 1) ≡ (1 + s) + 1 = omega arith in
    (a.0 ∙ ap (λ k. 1 + k) n.0, subst (λ k. AreNumbered q k ts) swap (shifted p q (s + 1) ts a.1 n.1))

numbered : (ts : List Tie) → IsAscending ts → AreNumbered (place_among ts) 0 ts
numbered [] up = tt
numbered (t ∷ ts) up = (below t.value t ts ∙ rw (test-not_less t.value t.value (omega (arith, ints)), none-below t.value ts up.0) refl, shifted (place_among ts) (place_among (t ∷ ts)) 0 ts later (numbered ts up.1))
  where
    later : AllByRecursion (λ (u : Tie). place_among (t ∷ ts) u.value ≡ 1 + place_among ts u.value) ts
    later = all_weaker (λ (u : Tie). t.value <ℤ u.value) (λ (u : Tie). place_among (t ∷ ts) u.value ≡ 1 + place_among ts u.value) (λ u h. below u.value t ts ∙ rw (test-less t.value u.value h) refl) ts up.0

-- how many values have a place
often : (ℤ → ℕ) → ℕ → List Tie → ℕ
often p i ts = sum_by (summed (λ v. cond (nat_eq (p v) i) 1 0)) ts

often-cons : (p : ℤ → ℕ) (i : ℕ) (t : Tie) (ts : List Tie) → often p i (t ∷ ts) ≡ t.count * cond (nat_eq (p t.value) i) 1 0 + often p i ts
unfolding often
often-cons p i t ts = sum_by-cons (summed (λ v. cond (nat_eq (p v) i) 1 0)) t ts

other : (p : ℤ → ℕ) (s i : ℕ) (t : Tie) (ts : List Tie) → p t.value ≡ s → s ≢ i → often p i (t ∷ ts) ≡ often p i ts
other p s i t ts e ne = often-cons p i t ts ∙ rw (e, ne_eqb s i ne) (omega arith)

none-before : (p : ℤ → ℕ) (s i : ℕ) (ts : List Tie) → i < s → AreNumbered p s ts → often p i ts ≡ 0
unfolding often
none-before p s i [] h n = refl
none-before p s i (t ∷ ts) h n = other p s i t ts n.0 (omega arith) ∙ none-before p (s + 1) i ts (omega (arith, h)) n.1

past : (p : ℤ → ℕ) (s : ℕ) (t : Tie) (ts : List Tie) → p t.value ≡ s → (n k : ℕ) → s < k → map (λ i. often p i (t ∷ ts)) (range_with_len k n) ≡ map (λ i. often p i ts) (range_with_len k n)
past p s t ts e zero k h = refl
past p s t ts e (suc n) k h = cc (other p s k t ts e (omega arith), past p s t ts e n (k + 1) (omega (arith, h)))

counted : (p : ℤ → ℕ) (s : ℕ) (ts : List Tie) → AreNumbered p s ts → map (λ i. often p i ts) (range_with_len s (length ts)) ≡ map (λ (t : Tie). t.count) ts
counted p s [] n = refl
counted p s (t ∷ ts) n = cc (here, past p s t ts n.0 (length ts) (s + 1) (omega arith) ∙ counted p (s + 1) ts n.1)
  where
    here : often p s (t ∷ ts) ≡ t.count
    here = often-cons p s t ts ∙ rw (n.0, eq-eqb s s refl) (omega (arith, none-before p (s + 1) s ts (omega arith) n.1))

-- each as often as its group counts
pub places-counted : (values : List ℤ) → counts_of (length (column_sizes values)) (places_of values) ≡ column_sizes values
unfolding often
places-counted values =
    ap (λ k. counts_of k (places_of values)) (length-map (tie_groups values) (λ (t : Tie). t.count))
    ∙ map-same (λ i. count_of i (places_of values)) (λ i. often (place_among (tie_groups values)) i (tie_groups values))
    (λ i. sum_by-map (λ l. cond (nat_eq l i) 1 0) (place_among (tie_groups values)) values ∙ sym (sum_by-groups (λ v. cond (nat_eq (place_among (tie_groups values) v) i) 1 0) values)) (labels (length (tie_groups values)))
    ∙ counted (place_among (tie_groups values)) 0 (tie_groups values) (numbered (tie_groups values) (groups-ascend values))
