-- Concordant pairs by the first label: it is in one with each greater label behind it.
use Rattle.std.proofs.Common.{◌≡◌, ℕ, zero, suc, ◌+◌, ◌-◌, ◌<◌, ◌≤◌, List, [], ◌∷◌, map, length, drop, cond, refl, sym, ◌∙◌, ap, arith, nat_eq, nat_lt, inl, inr}
use Rattle.std.specs.List.{sum, sum_by, count_by, AllByRecursion, range_with_len}
use Rattle.std.proofs.lemmas.Bool.{cases_lt}
use Rattle.std.proofs.lemmas.Bool.Decides.{nat_tests}
use Rattle.std.proofs.lemmas.List.{drop-map}
use Rattle.std.proofs.lemmas.List.Sums.{sum-map}
use Rattle.weights.specs.Labellings.{counts_of, labellings, labels}
use Rattle.weights.proofs.Chosen.{one_if}
use Rattle.weights.proofs.Filters.{all_map, all_weaker}
use Rattle.weights.proofs.FirstLabel.{first_labels, keep, sum_by-labellings}
use Rattle.weights.proofs.Members.{IsLabelling}
use Rattle.weights.proofs.Ranges.{range-none, range-one}
use Rattle.weights.proofs.Sums.{sum_by-same, sum_by-same_where, sum_by-swap}
use Rattle.enumerate.proofs.JoinedMembers.{each-labelling}
use Rattle.concordant_pairs.specs.ConcordantPairs.{concordant_pairs}

-- a function of the concordant pairs, added over the labellings
abbrev pub concordant_sum : List ℕ → (ℕ → ℕ) → ℕ
concordant_sum sizes f = sum_by (λ xs. f (concordant_pairs xs)) (labellings sizes)

pub concordant_sum-same : (sizes : List ℕ) (f g : ℕ → ℕ) → ((u : ℕ) → f u ≡ g u) → concordant_sum sizes f ≡ concordant_sum sizes g
concordant_sum-same sizes f g e = sum_by-same (λ xs. f (concordant_pairs xs)) (λ xs. g (concordant_pairs xs)) (λ xs. e (concordant_pairs xs)) (labellings sizes)

drop-range : (n s k : ℕ) → n ≤ k → drop n (range_with_len s k) ≡ range_with_len (s + n) (k - n)
drop-range zero s k h =
    let one : s + 0 ≡ s = omega arith in
    let two : k - 0 ≡ k = omega arith in
    rw (one, two) refl
drop-range (suc n) s zero h = absurd (omega (arith, h))
drop-range (suc n) s (suc k) h =
    let one : (s + 1) + n ≡ s + suc n = omega arith in
    let two : k - n ≡ suc k - suc n = omega arith in
    drop-range n (s + 1) k (omega (arith, h)) ∙ rw (one, two) refl

-- whether a label is greater, by the labels behind
one-greater : (l k : ℕ) → l < k → (y : ℕ) → y < k → one_if (nat_lt l y) ≡ sum_by (λ i. cond (nat_eq y i) 1 0) (range_with_len (0 + suc l) (k - suc l))
one-greater l k h y b = elim (cases_lt l y) [
  | inl less ↦ is-less less ∙ sym (range-one (λ i. 1) y (0 + suc l) (k - suc l) (omega (arith, less)) (omega (arith, h, b)))
  | inr more ↦ is-more more ∙ sym (range-none (λ i. 1) y (0 + suc l) (k - suc l) (inl (omega (arith, more))))
]
  where
    is-less : l < y → one_if (nat_lt l y) ≡ 1
    is-less less = grind (arith, nat_tests, less)

    is-more : y ≤ l → one_if (nat_lt l y) ≡ 0
    is-more more = grind (arith, nat_tests, more)

greater-labels : (l k : ℕ) (xs : List ℕ) → l < k → AllByRecursion (λ y. y < k) xs → count_by (λ y. nat_lt l y) xs ≡ sum (drop (suc l) (counts_of k xs))
greater-labels l k xs h below =
    let behind : List ℕ = range_with_len (0 + suc l) (k - suc l) in
    sum_by-same_where (λ y. y < k) (λ y. cond (nat_lt l y) 1 0) (λ y. sum_by (λ i. cond (nat_eq y i) 1 0) behind) (one-greater l k h) xs below
    ∙ sum_by-swap (λ y i. cond (nat_eq y i) 1 0) xs behind
    ∙ sym (sum-map (λ i. count_by (λ y. nat_eq y i) xs) behind)
    ∙ ap (λ is. sum (map (λ i. count_by (λ y. nat_eq y i) xs) is)) (sym (drop-range (suc l) 0 k (omega (arith, h))))
    ∙ ap sum (sym (drop-map (λ i. count_by (λ y. nat_eq y i) xs) (suc l) (labels k)))

first-below : (s : ℕ) (counts : List ℕ) → AllByRecursion (λ first. first.0 < s + length first.1) (first_labels s counts)
first-below s [] = tt
first-below s (zero ∷ counts) = all_map (λ first. first.0 < s + length first.1) (keep 0) (first_labels (s + 1) counts) (all_weaker (λ first. first.0 < (s + 1) + length first.1) (λ first. first.0 < s + length (keep 0 first).1) (λ first h. omega (arith, h)) (first_labels (s + 1) counts) (first-below (s + 1) counts))
first-below s (suc c ∷ counts) = (
  omega arith,
  all_map (λ first. first.0 < s + length first.1) (keep (suc c)) (first_labels (s + 1) counts) (all_weaker (λ first. first.0 < (s + 1) + length first.1) (λ first. first.0 < s + length (keep (suc c) first).1) (λ first h. omega (arith, h)) (first_labels (s + 1) counts) (first-below (s + 1) counts)),
)

-- what a first label and the labellings behind it add
abbrev pub from_first : (ℕ → ℕ) → ℕ × List ℕ → ℕ
from_first f first = concordant_sum first.1 (λ u. f (sum (drop (suc first.0) first.1) + u))

pub by_first : (f : ℕ → ℕ) (n : ℕ) (sizes : List ℕ) → sum sizes ≡ suc n → concordant_sum sizes f ≡ sum_by (from_first f) (first_labels 0 sizes)
by_first f n sizes e = sum_by-labellings (λ xs. f (concordant_pairs xs)) n sizes e ∙ sum_by-same_where (λ first. first.0 < 0 + length first.1) (λ first. sum_by (λ xs. f (concordant_pairs (first.0 ∷ xs))) (labellings first.1)) (from_first f) each (first_labels 0 sizes) (first-below 0 sizes)
  where
    each : (first : ℕ × List ℕ) → first.0 < 0 + length first.1 → sum_by (λ xs. f (concordant_pairs (first.0 ∷ xs))) (labellings first.1) ≡ from_first f first
    each first h =
        sum_by-same_where (IsLabelling first.1) (λ xs. f (concordant_pairs (first.0 ∷ xs))) (λ xs. f (sum (drop (suc first.0) first.1) + concordant_pairs xs))
        (λ xs l. ap (λ n. f (n + concordant_pairs xs)) (greater-labels first.0 (length first.1) xs (omega (arith, h)) l.over.below ∙ ap (λ counts. sum (drop (suc first.0) counts)) l.counted))
        (labellings first.1) (each-labelling first.1)

-- the labels numbered from one more on
abbrev pub raised : ℕ × List ℕ → ℕ × List ℕ
raised first = (suc first.0, first.1)

keep-raised : (c : ℕ) (firsts : List (ℕ × List ℕ)) → map (keep c) (map raised firsts) ≡ map raised (map (keep c) firsts)
keep-raised c [] = refl
keep-raised c (first ∷ firsts) = ap (λ rest. keep c (raised first) ∷ rest) (keep-raised c firsts)

pub first-raised : (s : ℕ) (counts : List ℕ) → first_labels (suc s) counts ≡ map raised (first_labels s counts)
first-raised s [] = refl
first-raised s (zero ∷ counts) =
    let e : suc s + 1 ≡ suc (s + 1) = omega arith in
    ap (λ t. map (keep 0) (first_labels t counts)) e ∙ ap (map (keep 0)) (first-raised (s + 1) counts) ∙ keep-raised 0 (first_labels (s + 1) counts)
first-raised s (suc c ∷ counts) =
    let e : suc s + 1 ≡ suc (s + 1) = omega arith in
    ap (λ rest. (suc s, c ∷ counts) ∷ rest) (ap (λ t. map (keep (suc c)) (first_labels t counts)) e ∙ ap (map (keep (suc c))) (first-raised (s + 1) counts) ∙ keep-raised (suc c) (first_labels (s + 1) counts))
