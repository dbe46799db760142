-- The values 0, 1, 2 and so on: in order they are as they stand, and their doubled midranks are 2, 4,
-- 6 and so on.
use Rattle.std.proofs.Common.{◌≡◌, ℕ, zero, suc, ◌+◌, ◌*◌, ◌<◌, ◌≤◌, Bool, true, false, cond, List, [], ◌∷◌, length, map, ◌⊎◌, inl, inr, refl, sym, ap, ◌∙◌, subst, arith}
use Rattle.std.specs.Prelude.{ℤ, pos, int_lt}
use Rattle.std.specs.List.{range_with_len}
use Rattle.std.specs.Ordering.{int_eq}
use Rattle.std.proofs.Math.Nat.{mul-le-mul}
use Rattle.std.proofs.lemmas.Bool.{cases_eq}
use Rattle.std.proofs.lemmas.Int.{ints}
use Rattle.std.proofs.lemmas.List.Sums.{sum_by-cons}
use Rattle.weights.specs.InOrder.{in_order}
use Rattle.weights.specs.Numbers.{absolute_sum}
use Rattle.weights.specs.declared.TheConstants.{MAX}
use Rattle.weights.proofs.Filters.{map-same_where}
use Rattle.weights.proofs.Members.{range-below}
use Rattle.midranks.specs.Midranks.{doubled_midrank, number_below, number_equal}
use Rattle.scores.specs.Scores.{score_list}
use Rattle.scores.specs.declared.kinds.ScoreKind.TheVariants.{Wilcoxon}
use Rattle.sample_reader.specs.PooledSample.{may_precede, paired_subjects, values_of}
use Rattle.shift_limits.proofs.RankSums.{doubled_ranks}

-- so many values from one on
abbrev pub counted : ℕ → ℕ → List ℤ
counted first n = map pos (range_with_len first n)

paired-cons : (v : ℤ) (values : List ℤ) (m : ℕ) (members : List ℕ) → paired_subjects (v ∷ values) (m ∷ members) ≡ record { value = v; label = m } ∷ paired_subjects values members
unfolding paired_subjects
paired-cons v values m members = refl

paired-none : paired_subjects [] [] ≡ []
unfolding paired_subjects
paired-none = refl

-- a subject may stand before one with the next value
before-next : (first l m : ℕ) → may_precede (record { value = pos first; label = l }) (record { value = pos (first + 1); label = m }) ≡ true
before-next first l m = rw (is-less (int_lt (pos first) (pos (first + 1))) (grind (arith, ints))) refl
  where
    is-less : (b : Bool) → b ≡ true → int_lt (pos first) (pos (first + 1)) ≡ true
    is-less b e = grind (arith, ints)

pub counted-in-order : (first : ℕ) (members : List ℕ) → in_order may_precede (paired_subjects (counted first (length members)) members) ≡ paired_subjects (counted first (length members)) members
counted-in-order first [] = rw paired-none refl
counted-in-order first (l ∷ []) = rw (paired-cons (pos first) [] l [], paired-none) refl
counted-in-order first (l ∷ m ∷ members) =
    let rest = counted-in-order (first + 1) (m ∷ members) in
    let next = paired-cons (pos (first + 1)) (counted (first + 1 + 1) (length members)) m members in
    rw (paired-cons (pos first) (counted (first + 1) (suc (length members))) l (m ∷ members), rest, next, before-next first l m) refl

pub counted-values : (first : ℕ) (members : List ℕ) → values_of (paired_subjects (counted first (length members)) members) ≡ counted first (length members)
counted-values first [] = rw paired-none refl
counted-values first (m ∷ members) =
    rw (paired-cons (pos first) (counted (first + 1) (length members)) m members) (ap (λ (vs : List ℤ). pos first ∷ vs) (counted-values (first + 1) members))

-- ---- their midranks

lower : ℤ → ℤ → ℕ
lower w v = cond (int_lt w v) 1 0

lower-yes : (j i : ℕ) → j < i → lower (pos j) (pos i) ≡ 1
unfolding lower
lower-yes j i h = let e : int_lt (pos j) (pos i) ≡ true = grind (arith, ints, h) in rw e refl

lower-no : (j i : ℕ) → i ≤ j → lower (pos j) (pos i) ≡ 0
unfolding lower
lower-no j i h = let e : int_lt (pos j) (pos i) ≡ false = grind (arith, ints, h) in rw e refl

below-cons : (w v : ℤ) (values : List ℤ) → number_below (w ∷ values) v ≡ lower w v + number_below values v
unfolding number_below lower
below-cons w v values = sum_by-cons (λ w. cond (int_lt w v) 1 0) w values

below-none : (v : ℤ) → number_below [] v ≡ 0
unfolding number_below
below-none v = refl

none-lower : (n first i : ℕ) → i ≤ first → number_below (counted first n) (pos i) ≡ 0
none-lower zero first i h = below-none (pos i)
none-lower (suc n) first i h = omega (arith, below-cons (pos first) (pos i) (counted (first + 1) n), lower-no first i h, none-lower n (first + 1) i (omega (arith, h)))

counted-lower : (n first i : ℕ) → first ≤ i → i ≤ first + n → first + number_below (counted first n) (pos i) ≡ i
counted-lower zero first i h k = omega (arith, h, k, below-none (pos i))
counted-lower (suc n) first i h k = elim (cases_eq first i) [
  | inl e ↦ omega (arith, e, none-lower (suc n) first i (omega (arith, e)))
  | inr e ↦ omega (arith, below-cons (pos first) (pos i) (counted (first + 1) n), lower-yes first i (omega (arith, h, e)), counted-lower n (first + 1) i (omega (arith, h, e)) (omega (arith, k)))
]

alike : ℤ → ℤ → ℕ
alike w v = cond (int_eq w v) 1 0

alike-yes : (i : ℕ) → alike (pos i) (pos i) ≡ 1
unfolding alike
alike-yes i = let e : int_eq (pos i) (pos i) ≡ true = grind (arith, ints) in rw e refl

alike-no : (j i : ℕ) → i < j ⊎ j < i → alike (pos j) (pos i) ≡ 0
unfolding alike
alike-no j i h = let e : int_eq (pos j) (pos i) ≡ false = grind (arith, ints, h) in rw e refl

equal-cons : (w v : ℤ) (values : List ℤ) → number_equal (w ∷ values) v ≡ alike w v + number_equal values v
unfolding number_equal alike
equal-cons w v values = sum_by-cons (λ w. cond (int_eq w v) 1 0) w values

equal-none : (v : ℤ) → number_equal [] v ≡ 0
unfolding number_equal
equal-none v = refl

none-alike : (n first i : ℕ) → i < first → number_equal (counted first n) (pos i) ≡ 0
none-alike zero first i h = equal-none (pos i)
none-alike (suc n) first i h = omega (arith, equal-cons (pos first) (pos i) (counted (first + 1) n), alike-no first i (inl h), none-alike n (first + 1) i (omega (arith, h)))

one-alike : (n first i : ℕ) → first ≤ i → i < first + n → number_equal (counted first n) (pos i) ≡ 1
one-alike zero first i h k = absurd (omega (arith, h, k))
one-alike (suc n) first i h k = elim (cases_eq first i) [
  | inl e ↦ omega (arith, equal-cons (pos first) (pos i) (counted (first + 1) n), subst (λ j. alike (pos j) (pos i) ≡ 1) (sym e) (alike-yes i), none-alike n (first + 1) i (omega (arith, e)))
  | inr e ↦ omega (arith, equal-cons (pos first) (pos i) (counted (first + 1) n), alike-no first i (inr (omega (arith, h, e))), one-alike n (first + 1) i (omega (arith, h, e)) (omega (arith, k)))
]

ranked : (n i : ℕ) → i < 0 + n → doubled_midrank (counted 0 n) (pos i) ≡ 2 * i + 2
unfolding doubled_midrank
ranked n i h = omega (arith, counted-lower n 0 i (omega arith) (omega (arith, h)), one-alike n 0 i (omega arith) h)

map-map : {X Y Z : Type 0} (f : Y → Z) (g : X → Y) (xs : List X) → map f (map g xs) ≡ map (λ x. f (g x)) xs
map-map f g [] = refl
map-map f g (x ∷ xs) = ap (λ zs. f (g x) ∷ zs) (map-map f g xs)

-- without ties the scores are the doubled ranks
pub counted-scores : (n : ℕ) → score_list Wilcoxon (counted 0 n) ≡ doubled_ranks 0 n
counted-scores n =
    map-map (λ v. pos (doubled_midrank (counted 0 n) v)) pos (range_with_len 0 n)
    ∙ map-same_where (λ i. i < 0 + n) (λ i. pos (doubled_midrank (counted 0 n) (pos i))) (λ i. pos (2 * i + 2)) (λ i h. ap pos (ranked n i h)) (range_with_len 0 n) (range-below 0 n)

-- ---- their bound

ranks-sum : (n first : ℕ) → absolute_sum (doubled_ranks first n) ≤ n * (2 * (first + n))
ranks-sum zero first = omega arith
ranks-sum (suc n) first = joined (absolute_sum (doubled_ranks (first + 1) n)) (ranks-sum n (first + 1))
  where
    joined : (s : ℕ) → s ≤ n * (2 * (first + 1 + n)) → 2 * first + 2 + s ≤ suc n * (2 * (first + suc n))
    joined s h = omega (arith, h)

pub ranks-bound : (n : ℕ) → n ≤ 10000 → 2 * n * absolute_sum (doubled_ranks 0 n) ≤ MAX
ranks-bound n few =
    let sum : absolute_sum (doubled_ranks 0 n) ≤ 10000 * 20000 = omega (arith, ranks-sum n 0, mul-le-mul few (twice n few)) in
    omega (arith, mul-le-mul (twice n few) sum)
  where
    twice : (n : ℕ) → n ≤ 10000 → 2 * n ≤ 20000
    twice n h = omega (arith, h)
