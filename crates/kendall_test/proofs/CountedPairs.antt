-- Pairs of subjects counted one by one, and by how often each second value occurs.
use Rattle.std.proofs.Common.{◌≡◌, ℕ, zero, suc, ◌+◌, ◌*◌, ◌<◌, List, [], ◌∷◌, map, cond, refl, sym, ◌∙◌, ap, arith, mul-one, nat_eq, nat_le, le-leb, inl, inr}
use Rattle.std.specs.List.{sum, sum_by, AllByRecursion, range_with_len}
use Rattle.std.proofs.lemmas.Bool.{lt-ltb, le-ltb}
use Rattle.std.proofs.lemmas.Bool.Decides.{eqb_tells, leb_tells}
use borrow.Author.Tests.{lt-leb}
use Rattle.weights.specs.Labellings.{counts_of}
use Rattle.weights.proofs.Counted.{count_of}
use Rattle.weights.proofs.Sums.{sum_by-plus, sum_by-same, sum_by-same_where, sum_by-swap, sum_by-times, sum_by-zero}
use Rattle.kendall_test.specs.Kendall.{one_where_greater, one_where_less}
use Rattle.kendall_test.specs.KendallNetwork.{concordant_pairs}
use Rattle.kendall_test.proofs.CodeLaws.{sum-first}

-- the pairs of one of each list for which f says how much they add
abbrev pub crossed : (ℕ → ℕ → ℕ) → List ℕ → List ℕ → ℕ
crossed f xs ys = sum_by (λ x. sum_by (λ y. f x y) ys) xs

-- what is added where a label is at least s: the one of s itself, and those above
at-least : (s x : ℕ) (h : ℕ → ℕ) → cond (nat_le s x) (h x) 0 ≡ cond (nat_eq x s) 1 0 * h s + cond (nat_le (s + 1) x) (h x) 0
at-least s x h = elim (eqb_tells x s) [
  | inl e ↦ rw (e.0, e.1, le-leb s s (omega arith), lt-leb (s + 1) s (omega arith)) (omega arith)
  | inr e ↦ elim (leb_tells s x) [
    | inl l ↦ rw (e.0, l.0, le-leb (s + 1) x (omega (arith, l.1, e.1))) (omega arith)
    | inr l ↦ rw (e.0, l.0, lt-leb (s + 1) x (omega (arith, l.1))) (omega arith)
  ]
]

none-below : (s : ℕ) (h : ℕ → ℕ) (xs : List ℕ) → AllByRecursion (λ x. x < s + 0) xs → sum_by (λ x. cond (nat_le s x) (h x) 0) xs ≡ 0
none-below s h xs a =
    sum_by-same_where (λ x. x < s + 0) (λ x. cond (nat_le s x) (h x) 0) (λ x. 0) (λ x l. rw (lt-leb s x (omega (arith, l))) refl) xs a
    ∙ sum_by-zero xs

split : (s : ℕ) (h : ℕ → ℕ) (xs : List ℕ) → sum_by (λ x. cond (nat_le s x) (h x) 0) xs ≡ count_of s xs * h s + sum_by (λ x. cond (nat_le (s + 1) x) (h x) 0) xs
split s h xs =
    sum_by-same _ (λ x. cond (nat_eq x s) 1 0 * h s + cond (nat_le (s + 1) x) (h x) 0) (λ x. at-least s x h) xs
    ∙ sum_by-plus (λ x. cond (nat_eq x s) 1 0 * h s) (λ x. cond (nat_le (s + 1) x) (h x) 0) xs
    ∙ ap (λ n. n + sum_by (λ x. cond (nat_le (s + 1) x) (h x) 0) xs) (sum_by-times (h s) (λ x. cond (nat_eq x s) 1 0) xs)

below-next : (s n : ℕ) (xs : List ℕ) → AllByRecursion (λ x. x < s + suc n) xs → AllByRecursion (λ x. x < (s + 1) + n) xs
below-next s n [] a = tt
below-next s n (x ∷ xs) a = (omega (arith, a.0), below-next s n xs a.1)

-- how many labels are at least s
counted-from : (n s : ℕ) (xs : List ℕ) → AllByRecursion (λ x. x < s + n) xs → sum (map (λ i. count_of i xs) (range_with_len s n)) ≡ sum_by (λ x. cond (nat_le s x) 1 0) xs
counted-from zero s xs a = sym (none-below s (λ x. 1) xs a)
counted-from (suc n) s xs a =
    sum-first (count_of s xs) (map (λ i. count_of i xs) (range_with_len (s + 1) n))
    ∙ ap (λ m. count_of s xs + m) (counted-from n (s + 1) xs (below-next s n xs a))
    ∙ ap (λ m. m + sum_by (λ x. cond (nat_le (s + 1) x) 1 0) xs) (sym (mul-one (count_of s xs)))
    ∙ sym (split s (λ x. 1) xs)

less-is : (x y : ℕ) → one_where_less x y ≡ cond (nat_le (x + 1) y) 1 0
less-is x y = elim (leb_tells (x + 1) y) [
  | inl l ↦ rw (l.0, lt-ltb x y (omega (arith, l.1))) refl
  | inr l ↦ rw (l.0, le-ltb x y (omega (arith, l.1))) refl
]

above-is : (s n : ℕ) (ys : List ℕ) → AllByRecursion (λ y. y < s + suc n) ys → sum (map (λ i. count_of i ys) (range_with_len (s + 1) n)) ≡ sum_by (λ y. one_where_less s y) ys
above-is s n ys a = counted-from n (s + 1) ys (below-next s n ys a) ∙ sym (sum_by-same _ _ (less-is s) ys)

concordant-from : (n s : ℕ) (xs ys : List ℕ) → AllByRecursion (λ x. x < s + n) xs → AllByRecursion (λ y. y < s + n) ys
    → concordant_pairs (map (λ i. count_of i xs) (range_with_len s n)) (map (λ i. count_of i ys) (range_with_len s n)) ≡ sum_by (λ x. cond (nat_le s x) (sum_by (λ y. one_where_less x y) ys) 0) xs
concordant-from zero s xs ys a b = sym (none-below s (λ x. sum_by (λ y. one_where_less x y) ys) xs a)
concordant-from (suc n) s xs ys a b =
    ap (λ m. count_of s xs * m + concordant_pairs (map (λ i. count_of i xs) (range_with_len (s + 1) n)) (map (λ i. count_of i ys) (range_with_len (s + 1) n))) (above-is s n ys b)
    ∙ ap (λ m. count_of s xs * sum_by (λ y. one_where_less s y) ys + m) (concordant-from n (s + 1) xs ys (below-next s n xs a) (below-next s n ys b))
    ∙ sym (split s (λ x. sum_by (λ y. one_where_less x y) ys) xs)

from-zero : (k : ℕ) (xs : List ℕ) → AllByRecursion (λ x. x < k) xs → AllByRecursion (λ x. x < 0 + k) xs
from-zero k [] a = tt
from-zero k (x ∷ xs) a = (omega (arith, a.0), from-zero k xs a.1)

-- pairs that rise, by the counts of the labels
pub concordant-are : (k : ℕ) (xs ys : List ℕ) → AllByRecursion (λ x. x < k) xs → AllByRecursion (λ y. y < k) ys → concordant_pairs (counts_of k xs) (counts_of k ys) ≡ crossed one_where_less xs ys
concordant-are k xs ys a b =
    concordant-from k 0 xs ys (from-zero k xs a) (from-zero k ys b)
    ∙ sum_by-same (λ x. cond (nat_le 0 x) (sum_by (λ y. one_where_less x y) ys) 0) (λ x. sum_by (λ y. one_where_less x y) ys) (λ x. rw (le-leb 0 x (omega arith)) refl) xs

pub discordant-are : (k : ℕ) (xs ys : List ℕ) → AllByRecursion (λ x. x < k) xs → AllByRecursion (λ y. y < k) ys → concordant_pairs (counts_of k ys) (counts_of k xs) ≡ crossed one_where_greater xs ys
discordant-are k xs ys a b = concordant-are k ys xs b a ∙ sum_by-swap (λ y x. one_where_less y x) ys xs
