-- Scores averaged over equal values: group by group, and their sum.
use Rattle.std.proofs.Common.{◌≡◌, ◌<◌, ◌≤◌, ◌+◌, ◌*◌, ◌/◌, ◌++◌, ℕ, ℤ, ◌<ℤ◌, pos, nat_abs, List, [], ◌∷◌, map, length, take, drop, ◌⊎◌, inl, inr, refl, sym, ◌∙◌, ap, arith}
use Prim.Native.Nat.{◌∣◌}
use Rattle.std.specs.List.{AllByRecursion, sum, sum_by}
use Rattle.std.proofs.Math.Nat.{mul-div_cancel'}
use Rattle.std.proofs.lemmas.Bool.{cases_lt}
use Rattle.std.proofs.lemmas.Nat.{mul-le}
use Rattle.std.proofs.lemmas.List.{drop-drop, drop-take, take-append-drop, take-take, take_all}
use Rattle.std.proofs.lemmas.List.Sums.{sum_by-append, sum_by-cons}
use Rattle.weights.proofs.Sums.{absolute_sum-by, sum_by-map, sum_by-same, sum_by-same_where}
use Rattle.midranks.specs.Ties.{IsAscending, tie_groups, values_in}
use Rattle.midranks.specs.declared.ties.Tie.{Tie}
use Rattle.midranks.proofs.Places.{below-first, below-later, below_in, equal-first, equal-later, equal_in, map-same_where, number_below-groups, number_equal-groups, values_in-groups}
use Rattle.midranks.proofs.TieLemmas.{groups-ascend, groups-counts, sum_by-groups, summed}
use Rattle.weights.specs.Numbers.{lcm, absolute_sum}
use Rattle.scores.specs.PlaceScores.{common_multiple}
use Rattle.scores.specs.Scores.{averaged, common_size}
use Rattle.scores.specs.ScoreSteps.{averaged_scores, group_scores}
use Rattle.scores.proofs.MultipleLemmas.{common_multiple-all}

-- the score of a value among groups
averaged_in : ℕ → List Tie → List ℕ → ℤ → ℕ
averaged_in multiple ts places v = sum (take (equal_in ts v) (drop (below_in ts v) places)) * (multiple / equal_in ts v)

averaged-in_groups : (places : List ℕ) (values : List ℤ) (v : ℤ) → averaged places values v ≡ averaged_in (common_size values) (tie_groups values) places v
unfolding averaged averaged_in
averaged-in_groups places values v = rw (number_below-groups values v, number_equal-groups values v) refl

first-score : (m : ℕ) (t : Tie) (ts : List Tie) (places : List ℕ) → IsAscending (t ∷ ts) → averaged_in m (t ∷ ts) places t.value ≡ sum (take t.count places) * (m / t.count)
unfolding averaged_in
first-score m t ts places up = rw (equal-first t ts up, below-first t ts up) refl

later-score : (m : ℕ) (t : Tie) (ts : List Tie) (places : List ℕ) (v : ℤ) → t.value <ℤ v → averaged_in m (t ∷ ts) places v ≡ averaged_in m ts (drop t.count places) v
unfolding averaged_in
later-score m t ts places v h = rw (equal-later t ts v h, below-later t ts v h, drop-drop (below_in ts v) t.count places) refl

group_scores-in : (m : ℕ) (ts : List Tie) (places : List ℕ) → IsAscending ts → group_scores m ts places ≡ map (λ t. averaged_in m ts places t.value) ts
group_scores-in m [] places up = refl
group_scores-in m (t ∷ ts) places up =
    both _ _ _ _ (sym (first-score m t ts places up))
    (group_scores-in m ts (drop t.count places) up.1
    ∙ map-same_where (λ u. t.value <ℤ u.value) (λ u. averaged_in m ts (drop t.count places) u.value) (λ u. averaged_in m (t ∷ ts) places u.value) (λ u h. sym (later-score m t ts places u.value h)) ts up.0)
  where
    both : (a b : ℕ) (us vs : List ℕ) → a ≡ b → us ≡ vs → a ∷ us ≡ b ∷ vs
    both a b us vs e f = cc

map-same : {X Y : Type 0} (f g : X → Y) → ((x : X) → f x ≡ g x) → (xs : List X) → map f xs ≡ map g xs
map-same f g e [] = refl
map-same f g e (x ∷ xs) = rw (e x, map-same f g e xs) refl

-- what the groups' values score
pub group_scores-are : (places : List ℕ) (values : List ℤ) → group_scores (common_size values) (tie_groups values) places ≡ map (λ t. averaged places values t.value) (tie_groups values)
group_scores-are places values =
    group_scores-in (common_size values) (tie_groups values) places (groups-ascend values)
    ∙ map-same (λ (t : Tie). averaged_in (common_size values) (tie_groups values) places t.value) (λ t. averaged places values t.value) (λ t. sym (averaged-in_groups places values t.value)) (tie_groups values)

-- ---- sums

take-add : (m n : ℕ) (xs : List ℕ) → take m xs ++ take n (drop m xs) ≡ take (m + n) xs
take-add m n xs = rw (← take-take m (m + n) xs (omega arith), ← drop-take m n xs) (take-append-drop m (take (m + n) xs))

-- a group's scores, as often as it has values
group-sum : (c s m : ℕ) → c ∣ m → c * (s * (m / c)) ≡ m * s
group-sum c s m h = by (m / c) (mul-div_cancel' c h)
  where
    by : (q : ℕ) → c * q ≡ m → c * (s * q) ≡ m * s
    by q e = rw (← e) (omega arith)

sum-in : (m : ℕ) (ts : List Tie) (places : List ℕ) → IsAscending ts → AllByRecursion (λ t. t.count ∣ m) ts → sum_by (summed (averaged_in m ts places)) ts ≡ m * sum (take (values_in ts) places)
sum-in m [] places up divide = omega arith
sum-in m (t ∷ ts) places up divide =
    sum_by-cons (summed (averaged_in m (t ∷ ts) places)) t ts
    ∙ both _ _ _ _ (ap (λ s. t.count * s) (first-score m t ts places up) ∙ group-sum t.count (sum (take t.count places)) m divide.0)
    (sum_by-same_where (λ u. t.value <ℤ u.value) (summed (averaged_in m (t ∷ ts) places)) (summed (averaged_in m ts (drop t.count places))) (λ u h. ap (λ s. u.count * s) (later-score m t ts places u.value h)) ts up.0
    ∙ sum-in m ts (drop t.count places) up.1 divide.1)
    ∙ joined (sum (take t.count places)) (sum (take (values_in ts) (drop t.count places))) _
    (sym (sum_by-append (λ x. x) (take t.count places) (take (values_in ts) (drop t.count places)))
    ∙ ap sum (take-add t.count (values_in ts) places) ∙ ap (λ n. sum (take n places)) (sym (sum_by-cons (λ t. t.count) t ts)))
  where
    both : (a b c d : ℕ) → a ≡ b → c ≡ d → a + c ≡ b + d
    both a b c d e f = omega arith

    joined : (a b s : ℕ) → a + b ≡ s → m * a + m * b ≡ m * s
    joined a b s e = rw (← e) (omega arith)

pub counts-positive : (ts : List Tie) → AllByRecursion (λ t. 0 < t.count) ts → AllByRecursion (λ c. 0 < c) (map (λ t. t.count) ts)
counts-positive [] some = tt
counts-positive (t ∷ ts) some = (some.0, counts-positive ts some.1)

counts-divide : (m : ℕ) (ts : List Tie) → AllByRecursion (λ c. c ∣ m) (map (λ t. t.count) ts) → AllByRecursion (λ t. t.count ∣ m) ts
counts-divide m [] divide = tt
counts-divide m (t ∷ ts) divide = (divide.0, counts-divide m ts divide.1)

pub sizes-positive : (values : List ℤ) → AllByRecursion (λ c. 0 < c) (map (λ t. t.count) (tie_groups values))
sizes-positive values = counts-positive (tie_groups values) (groups-counts values)

pub common_size-some : (values : List ℤ) → 0 < common_size values
unfolding common_size
common_size-some values = (common_multiple-all (map (λ t. t.count) (tie_groups values)) (sizes-positive values)).some

sizes-divide : (values : List ℤ) → AllByRecursion (λ t. t.count ∣ common_size values) (tie_groups values)
unfolding common_size
sizes-divide values = counts-divide _ (tie_groups values) (common_multiple-all (map (λ t. t.count) (tie_groups values)) (sizes-positive values)).all

absolute_sum-naturals : {X : Type 0} (f : X → ℕ) (xs : List X) → absolute_sum (map (λ x. pos (f x)) xs) ≡ sum_by f xs
absolute_sum-naturals f xs = absolute_sum-by (map (λ x. pos (f x)) xs) ∙ sum_by-map nat_abs (λ x. pos (f x)) xs

-- averaging changes no sum: all places count, times the least common multiple of the tie sizes
pub averaged-sum : (places : List ℕ) (values : List ℤ) → length places ≡ length values → absolute_sum (averaged_scores places values) ≡ common_size values * sum places
averaged-sum places values as_many =
    absolute_sum-naturals (averaged places values) values
    ∙ sym (sum_by-groups (averaged places values) values)
    ∙ sum_by-same (summed (averaged places values)) (summed (averaged_in (common_size values) (tie_groups values) places)) (λ t. ap (λ s. t.count * s) (averaged-in_groups places values t.value)) (tie_groups values)
    ∙ sum-in (common_size values) (tie_groups values) places (groups-ascend values) (sizes-divide values)
    ∙ ap (λ xs. common_size values * sum xs) (take_all (values_in (tie_groups values)) places (omega (arith, values_in-groups values, as_many)))

-- one value, or none, ties with nothing
pub common_size-one : (values : List ℤ) → length values ≤ 1 → common_size values ≡ 1
unfolding common_size common_multiple tie_groups lcm
common_size-one [] h = refl
common_size-one (v ∷ []) h = refl
common_size-one (v ∷ w ∷ vs) h = absurd (omega arith)

-- ---- what `averaged` owes

pub multiple-is : (values : List ℤ) (ties : List Tie) (multiple : ℕ) → ties ≡ tie_groups values → multiple ≡ common_multiple (map (λ t. t.count) ties) → multiple ≡ common_size values
unfolding common_size
multiple-is values ties multiple e f = f ∙ ap (λ ts. common_multiple (map (λ (t : Tie). t.count) ts)) e

pub map-map : {X Y Z : Type 0} (g : Y → Z) (f : X → Y) (xs : List X) → map g (map f xs) ≡ map (λ x. g (f x)) xs
map-map g f [] = refl
map-map g f (x ∷ xs) = rw (map-map g f xs) refl

pub scores-are : (places : List ℕ) (values : List ℤ) (ties : List Tie) (multiple : ℕ) → ties ≡ tie_groups values → multiple ≡ common_size values
    → map (λ s. pos s) (group_scores multiple ties places) ≡ map (λ t. pos (averaged places values t.value)) ties
scores-are places values ties multiple e f =
    rw (e, f, group_scores-are places values) (map-map (λ s. pos s) (λ (t : Tie). averaged places values t.value) (tie_groups values))

-- the places of two values and more count for something
abbrev pub Counts : ℕ → List ℕ → List ℤ → Type 0
Counts unit places values = 1 < length values → unit ≤ 2 * sum places

product-above : (m s : ℕ) → 0 < m → s ≤ m * s
product-above m s h = omega (arith, mul-le 1 s m s h (omega arith))

product-over : (m s : ℕ) → 1 ≤ s → m ≤ m * s
product-over m s h = omega (arith, mul-le m 1 m s (omega arith) h)

pub wide-total : (b : ℕ) (places : List ℕ) (values : List ℤ) → length places ≡ length values → (sum places ≤ b → ⊥) → b < absolute_sum (averaged_scores places values)
wide-total b places values as_many wide = rw (averaged-sum places values as_many) (omega (arith, wide, product-above (common_size values) (sum places) (common_size-some values)))

pub wide-product : (b : ℕ) (places : List ℕ) (values : List ℤ) → length places ≡ length values → (common_size values * sum places ≤ b → ⊥) → b < absolute_sum (averaged_scores places values)
wide-product b places values as_many wide = rw (averaged-sum places values as_many) (omega (arith, wide))

pub wide-multiple : (b unit : ℕ) (places : List ℕ) (values : List ℤ) → length places ≡ length values → 1 ≤ b → 0 < unit → Counts unit places values → (common_size values ≤ b → ⊥) → b < absolute_sum (averaged_scores places values)
wide-multiple b unit places values as_many some above small wide = rw (averaged-sum places values as_many) (by (cases_lt 1 (length values)))
  where
    by : (1 < length values) ⊎ (length values ≤ 1) → b < common_size values * sum places
    by (inl h) = omega (arith, wide, product-over (common_size values) (sum places) (omega (arith, small h, above)))
    by (inr h) = absurd (omega (arith, wide, common_size-one values h, some))

pub scale-most : (b unit : ℕ) (places : List ℕ) (values : List ℤ) → unit ≤ b → Counts unit places values → common_size values * sum places ≤ b → common_size values * unit ≤ 2 * b
scale-most b unit places values most small fits = by (cases_lt 1 (length values))
  where
    by : (1 < length values) ⊎ (length values ≤ 1) → common_size values * unit ≤ 2 * b
    by (inl h) =
        let m = common_size values in
        let less : m * unit ≤ m * (2 * sum places) = mul-le m unit m (2 * sum places) (omega arith) (small h) in
        let twice : m * (2 * sum places) ≡ 2 * (m * sum places) = omega arith in
        omega (arith, less, twice, fits)
    by (inr h) = let one = common_size-one values h in rw one (omega (arith, most))
