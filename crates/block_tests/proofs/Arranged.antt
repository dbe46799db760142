-- The arrangements of one block: the first one ascends, all have the same cells, and two neighbours may change places in all of them.
use Rattle.std.proofs.Common.{◌≡◌, ℕ, zero, suc, ◌-◌, ◌≤◌, ◌<◌, List, [], ◌∷◌, length, map, get_or, cond, nat_eq, nat_le, refl, sym, ◌∙◌, ap, subst, arith, inl, inr}
use Rattle.std.specs.Prelude.{ℤ, pos}
use Rattle.std.specs.List.{AllByRecursion, sum, sum_by}
use Rattle.std.specs.Cmp.Lexicographic.{pointwise}
use Rattle.std.proofs.lemmas.Bool.Decides.{leb_tells}
use Rattle.weights.specs.Labellings.{counts_of, has_counts, labellings, labels, lists_over}
use Rattle.weights.proofs.Counted.{all_from_SameCounts, count_of, labelling_from_SameCounts}
use Rattle.weights.proofs.Filters.{map-same}
use Rattle.weights.proofs.Members.{IsLabelling, labelling_from}
use Rattle.weights.specs.InOrder.{in_order, put_in}
use Rattle.weights.proofs.OneOrder.{all-put_in, length-in_order, sum_by-in_order}
use Rattle.weights.proofs.Sized.{length-counts_of, sum-counts_of}
use Rattle.weights.proofs.Sums.{sum_by-filter, sum_by-fronts, sum_by-same, sum_by-swap}
use Rattle.enumerate.specs.Walk.{BeginsWith}
use Rattle.enumerate.proofs.Extremes.{NeverFalls}
use Rattle.enumerate.proofs.FirstLabelling.{ascending, ascending_begins}
use Rattle.enumerate.proofs.Steps.{labellings_begin}
use Rattle.enumerate.proofs.Walking.{Contains-first}
use Rattle.networks.proofs.Swaps.{sum_by-swap_at, swap_at}
use Rattle.block_tests.specs.BlockNetworks.{first_arrangement, greatest_block_cell, least_block_cell}

-- ---- the first arrangement

pub begins : (counts : List ℕ) → BeginsWith (labellings counts) (first_arrangement counts)
begins counts =
    let b : BeginsWith (labellings counts) (ascending 0 counts) = ascending_begins counts in
    let same : first_arrangement counts ≡ ascending 0 counts = ap (λ xs. get_or xs 0 []) b in
    subst (BeginsWith (labellings counts)) (sym same) b

pub first_of : (counts x : List ℕ) → BeginsWith (labellings counts) x → x ≡ first_arrangement counts
first_of counts x b = sym (ap (λ xs. get_or xs 0 []) b)

pub first-labelling : (counts : List ℕ) → IsLabelling counts (first_arrangement counts)
first-labelling counts = labelling_from counts (first_arrangement counts) (Contains-first (first_arrangement counts) (labellings counts) (begins counts))

pub length-first : (counts : List ℕ) → length (first_arrangement counts) ≡ sum counts
length-first counts = (first-labelling counts).over.long

-- ---- cells in order

-- by their size
abbrev pub sorted : List ℕ → List ℕ
sorted xs = in_order nat_le xs

weaker : (x y : ℕ) (ys : List ℕ) → x ≤ y → AllByRecursion (λ z. y ≤ z) ys → AllByRecursion (λ z. x ≤ z) ys
weaker x y [] h a = tt
weaker x y (z ∷ ys) h a = (omega (arith, a.0), weaker x y ys h a.1)

falls_put : (x : ℕ) (ys : List ℕ) → NeverFalls ys → NeverFalls (put_in nat_le x ys)
falls_put x [] f = (tt, tt)
falls_put x (y ∷ ys) f = elim (leb_tells x y) [
  | inl l ↦ rw l.0 ((l.1, weaker x y ys l.1 f.0), f)
  | inr l ↦ rw l.0 (all-put_in nat_le (λ z. y ≤ z) x ys (omega (arith, l.1)) f.0, falls_put x ys f.1)
]

pub falls_order : (xs : List ℕ) → NeverFalls (sorted xs)
falls_order [] = tt
falls_order (x ∷ xs) = falls_put x (sorted xs) (falls_order xs)

-- every arrangement of a block in order is the first one
pub order-first : (counts x : List ℕ) → IsLabelling counts x → sorted x ≡ first_arrangement counts
order-first counts x l =
    first_of counts (sorted x) (labellings_begin counts (sorted x)
    (labelling_from_SameCounts counts x (sorted x) (sym (length-in_order nat_le x)) (λ i. sym (sum_by-in_order nat_le (λ v. cond (nat_eq v i) 1 0) x)) l)
    (falls_order x))

-- so all have the same sums
pub sum_by-first : (f : ℕ → ℕ) (counts x : List ℕ) → IsLabelling counts x → sum_by f x ≡ sum_by f (first_arrangement counts)
sum_by-first f counts x l = sym (sum_by-in_order nat_le f x) ∙ ap (sum_by f) (order-first counts x l)

-- and cells between its ends

from_least : (zs : List ℕ) → NeverFalls zs → AllByRecursion (λ z. get_or zs 0 0 ≤ z) zs
from_least [] f = tt
from_least (z ∷ zs) f = (omega arith, f.0)

to_greatest : (zs : List ℕ) → NeverFalls zs → AllByRecursion (λ z. z ≤ get_or zs (length zs - 1) 0) zs
to_greatest [] f = tt
to_greatest (z ∷ []) f = (omega arith, tt)
to_greatest (z ∷ y ∷ ys) f =
    let rest : AllByRecursion (λ x. x ≤ get_or (y ∷ ys) (length (y ∷ ys) - 1) 0) (y ∷ ys) = to_greatest (y ∷ ys) f.1 in
    let place : length (z ∷ y ∷ ys) - 1 ≡ suc (length (y ∷ ys) - 1) = omega arith in
    let last : get_or (z ∷ y ∷ ys) (length (z ∷ y ∷ ys) - 1) 0 ≡ get_or (y ∷ ys) (length (y ∷ ys) - 1) 0 = ap (λ n. get_or (z ∷ y ∷ ys) n 0) place in
    subst (λ n. AllByRecursion (λ x. x ≤ n) (z ∷ y ∷ ys)) (sym last) (omega (arith, f.0.0, rest.0), rest)

both : (a b : ℕ) (xs : List ℕ) → AllByRecursion (λ z. a ≤ z) xs → AllByRecursion (λ z. z ≤ b) xs → AllByRecursion (λ z. (a ≤ z) × (z ≤ b)) xs
both a b [] l h = tt
both a b (x ∷ xs) l h = ((l.0, h.0), both a b xs l.1 h.1)

pub between-ends : (counts x : List ℕ) → IsLabelling counts x → AllByRecursion (λ z. (least_block_cell counts ≤ z) × (z ≤ greatest_block_cell counts)) x
between-ends counts x l =
    let first : List ℕ = first_arrangement counts in
    let falls : NeverFalls first = subst NeverFalls (order-first counts x l) (falls_order x) in
    all_from_SameCounts (λ z. (least_block_cell counts ≤ z) × (z ≤ greatest_block_cell counts)) first x
    (λ i. sym (sum_by-first (λ v. cond (nat_eq v i) 1 0) counts x l))
    (both (least_block_cell counts) (greatest_block_cell counts) first (from_least first falls) (to_greatest first falls))

-- ---- arrangements of given cells

pub own-labelling : (m : ℕ) (cells : List ℕ) → AllByRecursion (λ z. z < m) cells → IsLabelling (counts_of m cells) cells
own-labelling m cells below =
    let long : length (counts_of m cells) ≡ m = length-counts_of m cells in
    record {
      over = record {
        long = sym (sum-counts_of (length cells) m cells (record { long = refl; below = below }));
        below = subst (λ n. AllByRecursion (λ z. z < n) cells) (sym long) below;
      };
      counted = ap (λ n. counts_of n cells) long;
    }

pub sum-counts : (m : ℕ) (cells : List ℕ) → AllByRecursion (λ z. z < m) cells → sum (counts_of m cells) ≡ length cells
sum-counts m cells below = sum-counts_of (length cells) m cells (record { long = refl; below = below })

-- ---- neighbours that change places

fronts : (f : List ℕ → ℕ) (n k : ℕ) → sum_by f (lists_over (suc n) k) ≡ sum_by (λ l. sum_by (λ xs. f (l ∷ xs)) (lists_over n k)) (labels k)
fronts f n k = sum_by-fronts f (λ l. l) (λ l. lists_over n k) (labels k)

pairs_in_front : (f : List ℕ → ℕ) (n k : ℕ) → sum_by f (lists_over (suc (suc n)) k) ≡ sum_by (λ l. sum_by (λ m. sum_by (λ xs. f (l ∷ m ∷ xs)) (lists_over n k)) (labels k)) (labels k)
pairs_in_front f n k = fronts f (suc n) k ∙ sum_by-same _ _ (λ l. fronts (λ xs. f (l ∷ xs)) n k) (labels k)

all-swapped : (i n k : ℕ) (f : List ℕ → ℕ) → sum_by (λ x. f (swap_at i x)) (lists_over n k) ≡ sum_by f (lists_over n k)
all-swapped i zero k f = refl
all-swapped zero (suc zero) k f = fronts (λ x. f (swap_at zero x)) zero k ∙ sym (fronts f zero k)
all-swapped zero (suc (suc n)) k f =
    pairs_in_front (λ x. f (swap_at zero x)) n k
    ∙ sum_by-swap (λ l m. sum_by (λ xs. f (m ∷ l ∷ xs)) (lists_over n k)) (labels k) (labels k)
    ∙ sym (pairs_in_front f n k)
all-swapped (suc i) (suc n) k f =
    fronts (λ x. f (swap_at (suc i) x)) n k
    ∙ sum_by-same _ _ (λ l. all-swapped i n k (λ xs. f (l ∷ xs))) (labels k)
    ∙ sym (fronts f n k)

counts-swapped : (counts : List ℕ) (i : ℕ) (xs : List ℕ) → has_counts counts (swap_at i xs) ≡ has_counts counts xs
counts-swapped counts i xs = ap (λ cs. pointwise nat_eq cs counts) (map-same (λ j. count_of j (swap_at i xs)) (λ j. count_of j xs) (λ j. sum_by-swap_at (λ l. cond (nat_eq l j) 1 0) i xs) (labels (length counts)))

arrangements-swapped : (counts : List ℕ) (i : ℕ) (f : List ℕ → ℕ) → sum_by (λ x. f (swap_at i x)) (labellings counts) ≡ sum_by f (labellings counts)
arrangements-swapped counts i f =
    let all : List (List ℕ) = lists_over (sum counts) (length counts) in
    sum_by-filter (λ x. f (swap_at i x)) (has_counts counts) all
    ∙ sum_by-same _ (λ x. cond (has_counts counts (swap_at i x)) (f (swap_at i x)) 0) (λ x. ap (λ b. cond b (f (swap_at i x)) 0) (sym (counts-swapped counts i x))) all
    ∙ all-swapped i (sum counts) (length counts) (λ x. cond (has_counts counts x) (f x) 0)
    ∙ sym (sum_by-filter f (has_counts counts) all)

swap-map : {X Y : Type 0} (h : X → Y) (i : ℕ) (xs : List X) → swap_at i (map h xs) ≡ map h (swap_at i xs)
swap-map h i [] = refl
swap-map h zero (x ∷ []) = refl
swap-map h zero (x ∷ y ∷ ys) = refl
swap-map h (suc i) (x ∷ xs) = ap (λ ys. h x ∷ ys) (swap-map h i xs)

-- and so in what they add
pub cells-swapped : (counts : List ℕ) (i : ℕ) (f : List ℤ → ℕ) → sum_by (λ x. f (swap_at i (map pos x))) (labellings counts) ≡ sum_by (λ x. f (map pos x)) (labellings counts)
cells-swapped counts i f =
    sum_by-same _ (λ x. f (map pos (swap_at i x))) (λ x. ap f (swap-map pos i x)) (labellings counts)
    ∙ arrangements-swapped counts i (λ x. f (map pos x))
