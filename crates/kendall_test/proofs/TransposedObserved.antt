-- The observed K is that of the two values of each subject, whichever is taken first.
use Rattle.std.proofs.Common.{◌≡◌, ℕ, zero, suc, ◌+◌, ◌<◌, ◌≤◌, List, [], ◌∷◌, length, get_or, map, Bool, true, false, cond, refl, sym, ◌∙◌, ap, arith}
use Rattle.std.specs.Prelude.{ℤ, pos, ◌-ℤ◌, ◌<ℤ◌, ◌≤ℤ◌, int_lt, nat_lt}
use Rattle.std.specs.List.{All, AllByRecursion, sum_by, zip}
use Rattle.std.proofs.lemmas.Bool.{le-ltb, lt-ltb}
use Rattle.std.proofs.lemmas.Int.{ints}
use Rattle.std.proofs.lemmas.List.{get_or_default}
use Rattle.std.proofs.lemmas.List.Elements.{recursion_from_All}
use Rattle.std.proofs.lemmas.List.Sums.{sum_by-cons}
use Rattle.weights.specs.Conditional.{observed_statistic}
use Rattle.weights.specs.InOrder.{in_order}
use Rattle.weights.proofs.Chosen.{one_if}
use Rattle.weights.proofs.OneOrder.{sum_by-in_order}
use Rattle.weights.proofs.Sums.{sum_by-same, sum_by-same_where, sum_by-swap}
use Rattle.midranks.specs.Ties.{tie_groups}
use Rattle.midranks.specs.declared.ties.Tie.{Tie}
use Rattle.midranks.proofs.Places.{group-exists}
use Rattle.midranks.proofs.TieLemmas.{less-from_test, not_less-from_test, test-less, test-not_less}
use Rattle.sample_reader.specs.Twins.{TwinData}
use Rattle.sample_reader.specs.PooledSample.{labels_of, may_precede, paired_subjects, values_of}
use Rattle.sample_reader.specs.declared.subjects.Subject.{Subject}
use Rattle.kendall_test.specs.Kendall.{kendall_subjects, kendall_test, one_where_greater, one_where_less, over_pairs, place_among, places_of}
use Rattle.kendall_test.specs.TransposedKendall.{transposed_twins}
use Rattle.kendall_test.proofs.Places.{below, no_tie}

-- ---- places are in the order of the values

marked : (t : Tie) (v w : ℤ) → v ≤ℤ w → one_if (int_lt t.value v) ≤ one_if (int_lt t.value w)
marked t v w h = by (int_lt t.value v) refl
  where
    by : (b : Bool) → int_lt t.value v ≡ b → one_if b ≤ one_if (int_lt t.value w)
    by true e = rw (test-less t.value w (omega (arith, ints, less-from_test t.value v e, h))) (omega arith)
    by false e = omega arith

place-rises : (ts : List Tie) (v w : ℤ) → v ≤ℤ w → place_among ts v ≤ place_among ts w
place-rises [] v w h = omega arith
place-rises (t ∷ ts) v w h = omega (arith, below v t ts, below w t ts, marked t v w h, place-rises ts v w h)

-- a value of a group is below the place of all greater ones
place-above : (ts : List Tie) (v w : ℤ) (i : ℕ) → i < length ts → (get_or ts i no_tie).value ≡ v → v <ℤ w → place_among ts v < place_among ts w
place-above [] v w i h e l = absurd (omega (arith, h))
place-above (t ∷ ts) v w zero h e l =
    let none : one_if (int_lt t.value v) ≡ 0 = ap one_if (test-not_less t.value v (omega (arith, ints, e))) in
    let one : one_if (int_lt t.value w) ≡ 1 = ap one_if (test-less t.value w (omega (arith, ints, e, l))) in
    omega (arith, below v t ts, below w t ts, none, one, place-rises ts v w (omega (arith, ints, l)))
place-above (t ∷ ts) v w (suc i) h e l =
    omega (arith, below v t ts, below w t ts, marked t v w (omega (arith, ints, l)), place-above ts v w i (omega (arith, h)) e l)

-- a value whose place is before those of all greater ones
abbrev IsPlaced : (ℤ → ℕ) → ℤ → Type 0
IsPlaced p v = (w : ℤ) → nat_lt (p v) (p w) ≡ int_lt v w

all-placed : (values : List ℤ) → AllByRecursion (IsPlaced (place_among (tie_groups values))) values
all-placed values = recursion_from_All (IsPlaced (place_among (tie_groups values))) values each
  where
    ordered : (v w : ℤ) → (v <ℤ w → place_among (tie_groups values) v < place_among (tie_groups values) w) → nat_lt (place_among (tie_groups values) v) (place_among (tie_groups values) w) ≡ int_lt v w
    ordered v w above = by (int_lt v w) refl
      where
        by : (b : Bool) → int_lt v w ≡ b → nat_lt (place_among (tie_groups values) v) (place_among (tie_groups values) w) ≡ b
        by true e = lt-ltb (place_among (tie_groups values) v) (place_among (tie_groups values) w) (above (less-from_test v w e))
        by false e = le-ltb (place_among (tie_groups values) v) (place_among (tie_groups values) w) (place-rises (tie_groups values) w v (not_less-from_test v w e))

    each : All (IsPlaced (place_among (tie_groups values))) values
    each k d h w =
        let g = group-exists values k d h in
        let at : (get_or (tie_groups values) g.0 g.1).value ≡ get_or values k d = ap (λ (t : Tie). t.value) g.3 ∙ g.4 in
        let found : (get_or (tie_groups values) g.0 no_tie).value ≡ get_or values k d = ap (λ (t : Tie). t.value) (get_or_default (tie_groups values) g.0 no_tie g.1 g.2) ∙ at in
        ordered (get_or values k d) w (place-above (tie_groups values) (get_or values k d) w g.0 g.2 found)

-- ---- pairs of subjects by their two values

abbrev Valued : Type 0
Valued = ℤ × ℤ

sums-placed : (f : ℤ → ℕ → ℕ) (p : ℤ → ℕ) (vs ws : List ℤ) → sum_by (λ (s : Subject). f s.value s.label) (paired_subjects vs (map p ws)) ≡ sum_by (λ (z : Valued). f z.0 (p z.1)) (zip vs ws)
unfolding paired_subjects
sums-placed f p [] ws = refl
sums-placed f p (a ∷ vs) [] = refl
sums-placed f p (a ∷ vs) (b ∷ ws) =
    sum_by-cons (λ (s : Subject). f s.value s.label) (record { value = a; label = p b }) (paired_subjects vs (map p ws))
    ∙ ap (λ n. f a (p b) + n) (sums-placed f p vs ws)
    ∙ sym (sum_by-cons (λ (z : Valued). f z.0 (p z.1)) (a, b) (zip vs ws))

sums-swapped : (f : ℤ → ℤ → ℕ) (vs ws : List ℤ) → sum_by (λ (z : Valued). f z.0 z.1) (zip ws vs) ≡ sum_by (λ (z : Valued). f z.1 z.0) (zip vs ws)
sums-swapped f [] [] = refl
sums-swapped f [] (b ∷ ws) = refl
sums-swapped f (a ∷ vs) [] = refl
sums-swapped f (a ∷ vs) (b ∷ ws) =
    sum_by-cons (λ (z : Valued). f z.0 z.1) (b, a) (zip ws vs)
    ∙ ap (λ n. f b a + n) (sums-swapped f vs ws)
    ∙ sym (sum_by-cons (λ (z : Valued). f z.1 z.0) (a, b) (zip vs ws))

all-seconds : (P : ℤ → Type 0) (vs ws : List ℤ) → AllByRecursion P ws → AllByRecursion (λ (z : Valued). P z.1) (zip vs ws)
all-seconds P [] ws all = tt
all-seconds P (a ∷ vs) [] all = tt
all-seconds P (a ∷ vs) (b ∷ ws) all = (all.0, all-seconds P vs ws all.1)

-- over all ordered pairs of subjects
abbrev both_ways : (Valued → Valued → ℕ) → List Valued → ℕ
both_ways f zs = sum_by (λ (z : Valued). sum_by (λ (y : Valued). f z y) zs) zs

-- one where one number is less than another, and the other two are
abbrev one_of : Bool → Bool → ℕ
one_of a b = cond a (one_if b) 0

one-of : (a b : Bool) → one_of a b ≡ one_of b a
one-of true true = refl
one-of true false = refl
one-of false true = refl
one-of false false = refl

abbrev values_rise : List Valued → ℕ
values_rise zs = both_ways (λ z y. one_of (int_lt z.0 y.0) (int_lt z.1 y.1)) zs

abbrev values_fall : List Valued → ℕ
values_fall zs = both_ways (λ z y. one_of (int_lt z.0 y.0) (int_lt y.1 z.1)) zs

over-placed : (f : ℕ → ℕ → ℕ) (p : ℤ → ℕ) (vs ws : List ℤ) → over_pairs f (paired_subjects vs (map p ws)) (paired_subjects vs (map p ws)) ≡ both_ways (λ z y. cond (int_lt z.0 y.0) (f (p z.1) (p y.1)) 0) (zip vs ws)
over-placed f p vs ws =
    sum_by-same _ (λ (s : Subject). sum_by (λ (y : Valued). cond (int_lt s.value y.0) (f s.label (p y.1)) 0) (zip vs ws)) (λ s. sums-placed (λ v l. cond (int_lt s.value v) (f s.label l) 0) p vs ws) (paired_subjects vs (map p ws))
    ∙ sums-placed (λ v l. sum_by (λ (y : Valued). cond (int_lt v y.0) (f l (p y.1)) 0) (zip vs ws)) p vs ws

module _ (p : ℤ → ℕ) (vs ws : List ℤ) (placed : AllByRecursion (IsPlaced p) ws) where
  placed-rise : over_pairs one_where_less (paired_subjects vs (map p ws)) (paired_subjects vs (map p ws)) ≡ values_rise (zip vs ws)
  placed-rise =
      over-placed one_where_less p vs ws
      ∙ sum_by-same_where (λ (z : Valued). IsPlaced p z.1) _ (λ (z : Valued). sum_by (λ (y : Valued). one_of (int_lt z.0 y.0) (int_lt z.1 y.1)) (zip vs ws)) (λ z h.
      sum_by-same _ (λ (y : Valued). one_of (int_lt z.0 y.0) (int_lt z.1 y.1)) (λ y. ap (λ b. one_of (int_lt z.0 y.0) b) (h y.1)) (zip vs ws)) (zip vs ws) (all-seconds (IsPlaced p) vs ws placed)

  placed-fall : over_pairs one_where_greater (paired_subjects vs (map p ws)) (paired_subjects vs (map p ws)) ≡ values_fall (zip vs ws)
  placed-fall =
      over-placed one_where_greater p vs ws
      ∙ sum_by-same _ (λ (z : Valued). sum_by (λ (y : Valued). one_of (int_lt z.0 y.0) (int_lt y.1 z.1)) (zip vs ws)) (λ z.
      sum_by-same_where (λ (y : Valued). IsPlaced p y.1) _ (λ (y : Valued). one_of (int_lt z.0 y.0) (int_lt y.1 z.1)) (λ y h. ap (λ b. one_of (int_lt z.0 y.0) b) (h z.1)) (zip vs ws) (all-seconds (IsPlaced p) vs ws placed)) (zip vs ws)

both-swapped : (f : ℤ → ℤ → ℤ → ℤ → ℕ) (vs ws : List ℤ) → both_ways (λ z y. f z.0 z.1 y.0 y.1) (zip ws vs) ≡ both_ways (λ z y. f z.1 z.0 y.1 y.0) (zip vs ws)
both-swapped f vs ws =
    sum_by-same _ (λ (z : Valued). sum_by (λ (y : Valued). f z.0 z.1 y.1 y.0) (zip vs ws)) (λ z. sums-swapped (λ v w. f z.0 z.1 v w) vs ws) (zip ws vs)
    ∙ sums-swapped (λ v w. sum_by (λ (y : Valued). f v w y.1 y.0) (zip vs ws)) vs ws

rise-swapped : (vs ws : List ℤ) → values_rise (zip ws vs) ≡ values_rise (zip vs ws)
rise-swapped vs ws =
    both-swapped (λ a b c d. one_of (int_lt a c) (int_lt b d)) vs ws
    ∙ sum_by-same _ (λ (z : Valued). sum_by (λ (y : Valued). one_of (int_lt z.0 y.0) (int_lt z.1 y.1)) (zip vs ws)) (λ z. sum_by-same _ (λ (y : Valued). one_of (int_lt z.0 y.0) (int_lt z.1 y.1)) (λ y. one-of (int_lt z.1 y.1) (int_lt z.0 y.0)) (zip vs ws)) (zip vs ws)

fall-swapped : (vs ws : List ℤ) → values_fall (zip ws vs) ≡ values_fall (zip vs ws)
fall-swapped vs ws =
    both-swapped (λ a b c d. one_of (int_lt a c) (int_lt d b)) vs ws
    ∙ sum_by-same _ (λ (z : Valued). sum_by (λ (y : Valued). one_of (int_lt y.0 z.0) (int_lt z.1 y.1)) (zip vs ws)) (λ z. sum_by-same _ (λ (y : Valued). one_of (int_lt y.0 z.0) (int_lt z.1 y.1)) (λ y. one-of (int_lt z.1 y.1) (int_lt y.0 z.0)) (zip vs ws)) (zip vs ws)
    ∙ sum_by-swap (λ (z : Valued) (y : Valued). one_of (int_lt y.0 z.0) (int_lt z.1 y.1)) (zip vs ws) (zip vs ws)

-- ---- the observed labelling

paired-again : (ss : List Subject) → paired_subjects (values_of ss) (labels_of ss) ≡ ss
unfolding paired_subjects
paired-again [] = refl
paired-again (s ∷ ss) = ap (λ rest. s ∷ rest) (paired-again ss)

over-ordered : (f : ℕ → ℕ → ℕ) (ss : List Subject) → over_pairs f (in_order may_precede ss) (in_order may_precede ss) ≡ over_pairs f ss ss
over-ordered f ss =
    sum_by-in_order may_precede (λ (a : Subject). sum_by (λ (b : Subject). cond (int_lt a.value b.value) (f a.label b.label) 0) (in_order may_precede ss)) ss
    ∙ sum_by-same _ (λ (a : Subject). sum_by (λ (b : Subject). cond (int_lt a.value b.value) (f a.label b.label) 0) ss) (λ a. sum_by-in_order may_precede (λ (b : Subject). cond (int_lt a.value b.value) (f a.label b.label) 0) ss) ss

abbrev value_sum : List ℤ → List ℤ → ℤ
value_sum vs ws = pos (values_rise (zip vs ws)) -ℤ pos (values_fall (zip vs ws))

observed-is : (t : TwinData) → observed_statistic (kendall_test t) ≡ value_sum t.first t.second
observed-is t =
    let ss : List Subject = kendall_subjects t in
    let places : List ℕ = places_of t.second in
    let placed = all-placed t.second in
    ap (λ ts. pos (over_pairs one_where_less ts ts) -ℤ pos (over_pairs one_where_greater ts ts)) (paired-again ss)
    ∙ ap (λ n. pos n -ℤ pos (over_pairs one_where_greater ss ss)) (over-ordered one_where_less (paired_subjects t.first places) ∙ placed-rise (place_among (tie_groups t.second)) t.first t.second placed)
    ∙ ap (λ n. pos (values_rise (zip t.first t.second)) -ℤ pos n) (over-ordered one_where_greater (paired_subjects t.first places) ∙ placed-fall (place_among (tie_groups t.second)) t.first t.second placed)

pub observed-transposed : (t : TwinData) → observed_statistic (kendall_test t) ≡ observed_statistic (kendall_test (transposed_twins t))
observed-transposed t =
    observed-is t
    ∙ sym (observed-is (transposed_twins t) ∙ ap (λ n. pos n -ℤ pos (values_fall (zip t.second t.first))) (rise-swapped t.first t.second)
    ∙ ap (λ n. pos (values_rise (zip t.first t.second)) -ℤ pos n) (fall-swapped t.first t.second))
