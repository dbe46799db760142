-- Counts of labellings by their concordant pairs.
use Rattle.std.proofs.Common.{◌≡◌, ℕ, zero, suc, ◌+◌, ◌-◌, ◌*◌, ◌<◌, ◌≤◌, List, [], ◌∷◌, length, drop, get_or, Bool, true, false, cond, refl, sym, ◌∙◌, ap, arith, nat_eq, nat_le, nat_lt, inl, inr}
use Rattle.std.specs.List.{sum, sum_by, count_by, AllByRecursion}
use Rattle.std.proofs.Math.Nat.{mul-le-mul_left}
use Rattle.std.proofs.lemmas.Bool.{cases_lt}
use Rattle.std.proofs.lemmas.Bool.Decides.{nat_tests}
use Rattle.std.proofs.lemmas.List.Sums.{sum_by-cons}
use Rattle.weights.specs.Labellings.{labellings, labels, number_of_labellings}
use Rattle.weights.specs.Grouped.{fits}
use Rattle.weights.specs.Numbers.{binomial}
use Rattle.weights.proofs.Binomials.{number_of_labellings-cons}
use Rattle.weights.proofs.FirstLabel.{number_of_labellings-positive}
use Rattle.weights.proofs.Ranges.{range-one}
use Rattle.weights.proofs.Sums.{sum_by-one, sum_by-same, sum_by-same_where, sum_by-swap, sum_by-zero}
use Rattle.label_network.proofs.Sizes.{fewer-labellings}
use Rattle.label_network.proofs.Narrowing.{fits-self}
use Rattle.concordant_pairs.specs.ConcordantPairs.{SumsAlike, pairs_across, concordant_pairs}
use Rattle.concordant_pairs.specs.ConcordantSteps.{AreCounts, AreMixed, mixed_count, mixed_total}
use Rattle.concordant_pairs.proofs.FirstConcordant.{concordant_sum-same}
use Rattle.concordant_pairs.proofs.TwoGroups.{two, two-same}
use Rattle.concordant_pairs.proofs.OneMoreGroup.{beyond-mixed, beyond-pairs, by_groups, mixed-turned, mixed_sum, next-subject, nobody-more}

-- ---- one number of pairs

-- 1 at one number alone
abbrev pub one_at : ℕ → ℕ → ℕ
one_at i u = cond (nat_eq u i) 1 0

-- the count of a lesser number, if there is one
abbrev pub count_before : List ℕ → ℕ → ℕ → ℕ → ℕ → ℕ
count_before rest n m i places = cond (nat_le places i) (mixed_count rest n m (i - places)) 0

moved-one : (p i u : ℕ) → p ≤ i → one_at i (p + u) ≡ one_at (i - p) u
moved-one p i u h = grind (arith, nat_tests, h)

moved-none : (p i u : ℕ) → i < p → one_at i (p + u) ≡ 0
moved-none p i u h = grind (arith, nat_tests, h)

mixed-same : (rest : List ℕ) (n m : ℕ) (f g : ℕ → ℕ) → ((u : ℕ) → f u ≡ g u) → mixed_sum rest n m f ≡ mixed_sum rest n m g
mixed-same rest n m f g e = concordant_sum-same rest (λ u. two n m (λ v. f (u + v))) (λ u. two n m (λ v. g (u + v))) (λ u. two-same n m (λ v. f (u + v)) (λ v. g (u + v)) (λ v. e (u + v)))

mixed-zero : (rest : List ℕ) (n m : ℕ) → mixed_sum rest n m (λ u. 0) ≡ 0
mixed-zero rest n m = concordant_sum-same rest (λ u. two n m (λ v. 0)) (λ u. 0) (λ u. sum_by-zero (labellings (n ∷ m ∷ []))) ∙ sum_by-zero (labellings rest)

moved-count : (rest : List ℕ) (n m p i : ℕ) → mixed_sum rest n m (λ u. one_at i (p + u)) ≡ count_before rest n m i p
moved-count rest n m p i = elim (cases_lt i p) [
  | inl less ↦ mixed-same rest n m (λ u. one_at i (p + u)) (λ u. 0) (λ u. moved-none p i u less) ∙ mixed-zero rest n m ∙ sym (not_before less)
  | inr more ↦ mixed-same rest n m (λ u. one_at i (p + u)) (one_at (i - p)) (λ u. moved-one p i u more) ∙ sym (is_before more)
]
  where
    is_before : p ≤ i → count_before rest n m i p ≡ mixed_count rest n m (i - p)
    is_before more = grind (arith, nat_tests, more)

    not_before : i < p → count_before rest n m i p ≡ 0
    not_before less = grind (arith, nat_tests, less)

-- a subject more: what two counts come to is what two others do
pub next-count : (rest : List ℕ) (c m i : ℕ) → mixed_count rest (suc c) m i + count_before rest c m i (suc c + m) ≡ count_before rest (suc c) m i (suc c) + mixed_count rest c m i
next-count rest c m i = both refl (sym (moved-count rest c m (suc c + m) i)) ∙ next-subject c m rest (one_at i) ∙ both (moved-count rest (suc c) m (suc c) i) refl
  where
    both : {x y v w : ℕ} → x ≡ v → y ≡ w → x + y ≡ v + w
    both e h = rw (e, h) refl

one-beyond : (i most : ℕ) → most < i → (u : ℕ) → u ≤ most → one_at i u ≡ 0
one-beyond i most h u l = grind (arith, nat_tests, h, l)

pub beyond-count : (rest : List ℕ) (n m i : ℕ) → n * m + pairs_across rest < i → mixed_count rest n m i ≡ 0
beyond-count rest n m i h = beyond-mixed rest n m (one_at i) (beyond-pairs rest) (one-beyond i (n * m + pairs_across rest) h)

-- ---- lists of counts

pub nobody-yet : (rest : List ℕ) (m : ℕ) (counts : List ℕ) → AreCounts rest counts → AreMixed rest 0 m counts
nobody-yet rest m counts are = record {
  each = λ u. are.each u ∙ sym (nobody-more rest m (one_at u));
  long = omega (arith, are.long);
}

pub with-others : (n : ℕ) (rest counts : List ℕ) → AreMixed rest n (sum rest) counts → AreCounts (n ∷ rest) counts
with-others n rest counts are = record {
  each = λ u. are.each u ∙ sym (by_groups n rest (one_at u));
  long = omega (arith, are.long);
}

pub others-with : (n : ℕ) (rest counts : List ℕ) → AreMixed rest (sum rest) n counts → AreCounts (n ∷ rest) counts
others-with n rest counts are = record {
  each = λ u. are.each u ∙ mixed-turned rest (sum rest) n (one_at u) ∙ sym (by_groups n rest (one_at u));
  long = long (sum rest) are.long;
}
  where
    long : (s : ℕ) → length counts ≡ s * n + pairs_across rest + 1 → length counts ≡ (n * s + pairs_across rest) + 1
    long s e = grind (arith, e)

pub all-counted : (rest : List ℕ) (n m : ℕ) (counts : List ℕ) → length counts ≡ n * m + pairs_across rest + 1 → ((u : ℕ) → u < length counts → get_or counts u 0 ≡ mixed_count rest n m u) → AreMixed rest n m counts
all-counted rest n m counts long each = record {
  each = λ u. elim (cases_lt u (length counts)) [
    | inl less ↦ each u less
    | inr more ↦ get_or-beyond counts u more ∙ sym (beyond-count rest n m u (omega (arith, more, long)))
  ];
  long = long;
}
  where
    get_or-beyond : (counts : List ℕ) (u : ℕ) → length counts ≤ u → get_or counts u 0 ≡ 0
    get_or-beyond [] u h = refl
    get_or-beyond (c ∷ counts) zero h = absurd (omega (arith, h))
    get_or-beyond (c ∷ counts) (suc u) h = get_or-beyond counts u (omega (arith, h))

-- ---- limits

pub mixed-within : (rest : List ℕ) (n m i : ℕ) → mixed_count rest n m i ≤ mixed_total rest n m
mixed-within rest n m i = all (labellings rest)
  where
    one : (b : Bool) → cond b 1 0 ≤ 1
    one true = omega arith
    one false = omega arith

    some : (u : ℕ) (yss : List (List ℕ)) → count_by (λ ys. nat_eq (u + concordant_pairs ys) i) yss ≤ length yss
    some u [] = omega arith
    some u (ys ∷ yss) = omega (arith, sum_by-cons (λ ys. cond (nat_eq (u + concordant_pairs ys) i) 1 0) ys yss, one (nat_eq (u + concordant_pairs ys) i), some u yss)

    all : (xss : List (List ℕ)) → sum_by (λ xs. count_by (λ ys. nat_eq (concordant_pairs xs + concordant_pairs ys) i) (labellings (n ∷ m ∷ []))) xss ≤ length xss * number_of_labellings (n ∷ m ∷ [])
    all [] = omega arith
    all (xs ∷ xss) = omega (
      arith,
      sum_by-cons (λ xs. count_by (λ ys. nat_eq (concordant_pairs xs + concordant_pairs ys) i) (labellings (n ∷ m ∷ []))) xs xss,
      some (concordant_pairs xs) (labellings (n ∷ m ∷ [])),
      all xss,
      more (length xss) (number_of_labellings (n ∷ m ∷ [])),
    )
      where
        more : (k t : ℕ) → suc k * t ≡ t + k * t
        more k t = grind arith

pub fewer-mixed : (rest : List ℕ) (a b m limit : ℕ) → a ≤ b → mixed_total rest b m ≤ limit → mixed_total rest a m ≤ limit
fewer-mixed rest a b m limit h within = omega (arith, mul-le-mul_left (number_of_labellings rest) (fewer-labellings (a ∷ m ∷ []) (b ∷ m ∷ []) both), within)
  where
    both : fits (a ∷ m ∷ []) (b ∷ m ∷ []) ≡ true
    both = grind (arith, nat_tests, h, fits-self (m ∷ []))

-- the labellings of a group and others, and of two groups
constant : {X : Type 0} (c : ℕ) (xs : List X) → sum_by (λ x. c) xs ≡ length xs * c
constant c [] = omega arith
constant c (x ∷ xs) = sum_by-cons (λ x. c) x xs ∙ ap (λ n. c + n) (constant c xs) ∙ more (length xs)
  where
    more : (k : ℕ) → c + k * c ≡ suc k * c
    more k = grind arith

pub group-total : (n : ℕ) (rest : List ℕ) → number_of_labellings (n ∷ rest) ≡ mixed_total rest n (sum rest)
group-total n rest =
    sym (sum_by-one (labellings (n ∷ rest)))
    ∙ by_groups n rest (λ u. 1)
    ∙ concordant_sum-same rest (λ u. two n (sum rest) (λ v. 1)) (λ u. number_of_labellings (n ∷ sum rest ∷ [])) (λ u. sum_by-one (labellings (n ∷ sum rest ∷ [])))
    ∙ constant (number_of_labellings (n ∷ sum rest ∷ [])) (labellings rest)

pub turned-total : (n : ℕ) (rest : List ℕ) → number_of_labellings (n ∷ rest) ≡ mixed_total rest (sum rest) n
turned-total n rest =
    sym (sum_by-one (labellings (n ∷ rest)))
    ∙ by_groups n rest (λ u. 1)
    ∙ mixed-turned rest n (sum rest) (λ u. 1)
    ∙ concordant_sum-same rest (λ u. two (sum rest) n (λ v. 1)) (λ u. number_of_labellings (sum rest ∷ n ∷ [])) (λ u. sum_by-one (labellings (sum rest ∷ n ∷ [])))
    ∙ constant (number_of_labellings (sum rest ∷ n ∷ [])) (labellings rest)

fewer-groups : (n : ℕ) (rest : List ℕ) → number_of_labellings rest ≤ number_of_labellings (n ∷ rest)
fewer-groups n rest = by (binomial (n + sum rest) n) (number_of_labellings-cons n rest) (number_of_labellings-positive (n ∷ rest))
  where
    by : (ways : ℕ) → number_of_labellings (n ∷ rest) ≡ ways * number_of_labellings rest → 1 ≤ number_of_labellings (n ∷ rest) → number_of_labellings rest ≤ number_of_labellings (n ∷ rest)
    by zero e some = absurd (omega (arith, e, some))
    by (suc ways) e some = rw e (grind arith)

pub behind-fits : (sizes : List ℕ) (at limit : ℕ) → number_of_labellings sizes ≤ limit → number_of_labellings (drop at sizes) ≤ limit
behind-fits sizes zero limit h = h
behind-fits [] (suc at) limit h = h
behind-fits (n ∷ sizes) (suc at) limit h = behind-fits sizes at limit (omega (arith, fewer-groups n sizes, h))

pub few-pairs : (sizes : List ℕ) → pairs_across sizes ≤ sum sizes * sum sizes
few-pairs [] = omega arith
few-pairs (n ∷ sizes) = by (sum (n ∷ sizes)) (sum_by-cons (λ v. v) n sizes) (few-pairs sizes)
  where
    by : (all : ℕ) → all ≡ n + sum sizes → pairs_across sizes ≤ sum sizes * sum sizes → n * sum sizes + pairs_across sizes ≤ all * all
    by all e h = rw e (grind (arith, h))

-- ---- all counts

each-zero : {X : Type 0} (f : X → ℕ) (xs : List X) → sum_by f xs ≡ 0 → AllByRecursion (λ x. f x ≡ 0) xs
each-zero f [] e = tt
each-zero f (x ∷ xs) e = (omega (arith, e, sum_by-cons f x xs), each-zero f xs (omega (arith, e, sum_by-cons f x xs)))

counted-times : {X : Type 0} (p : X → Bool) (a : ℕ) (xs : List X) → sum_by (λ x. cond (p x) a 0) xs ≡ count_by p xs * a
counted-times p a [] = omega arith
counted-times p a (x ∷ xs) = sum_by-cons (λ x. cond (p x) a 0) x xs ∙ by (p x) (counted-times p a xs) ∙ ap (λ n. n * a) (sym (sum_by-cons (λ x. cond (p x) 1 0) x xs))
  where
    by : (b : Bool) → sum_by (λ x. cond (p x) a 0) xs ≡ count_by p xs * a → cond b a 0 + sum_by (λ x. cond (p x) a 0) xs ≡ (cond b 1 0 + count_by p xs) * a
    by true rest = rw rest (grind arith)
    by false rest = rw rest (grind arith)

pub sums-alike : (sizes counts : List ℕ) → AreCounts sizes counts → SumsAlike sizes counts
sums-alike sizes counts are f =
    let all : List ℕ = labels (length counts) in
    sum_by-same_where (λ xs. one_if_more (concordant_pairs xs) ≡ 0) (λ xs. f (concordant_pairs xs)) (λ xs. sum_by (λ u. cond (nat_eq (concordant_pairs xs) u) (f u) 0) all) each (labellings sizes) (each-zero (λ xs. one_if_more (concordant_pairs xs)) (labellings sizes) (beyond-pairs sizes one_if_more none))
    ∙ sum_by-swap (λ xs u. cond (nat_eq (concordant_pairs xs) u) (f u) 0) (labellings sizes) all
    ∙ sum_by-same (λ u. sum_by (λ xs. cond (nat_eq (concordant_pairs xs) u) (f u) 0) (labellings sizes)) (λ u. get_or counts u 0 * f u) counted all
  where
    one_if_more : ℕ → ℕ
    one_if_more u = cond (nat_lt (pairs_across sizes) u) 1 0

    none : (u : ℕ) → u ≤ pairs_across sizes → one_if_more u ≡ 0
    none u l = grind (arith, nat_tests, l)

    small : (u : ℕ) → one_if_more u ≡ 0 → u ≤ pairs_across sizes
    small u e = elim (cases_lt (pairs_across sizes) u) [
      | inl more ↦ absurd (omega (arith, e, is-more more))
      | inr less ↦ less
    ]
      where
        is-more : pairs_across sizes < u → one_if_more u ≡ 1
        is-more more = grind (arith, nat_tests, more)

    each : (xs : List ℕ) → one_if_more (concordant_pairs xs) ≡ 0 → f (concordant_pairs xs) ≡ sum_by (λ u. cond (nat_eq (concordant_pairs xs) u) (f u) 0) (labels (length counts))
    each xs e = sym (range-one f (concordant_pairs xs) 0 (length counts) (omega arith) (omega (arith, small (concordant_pairs xs) e, are.long)))

    counted : (u : ℕ) → sum_by (λ xs. cond (nat_eq (concordant_pairs xs) u) (f u) 0) (labellings sizes) ≡ get_or counts u 0 * f u
    counted u = counted-times (λ xs. nat_eq (concordant_pairs xs) u) (f u) (labellings sizes) ∙ ap (λ n. n * f u) (sym (are.each u))
