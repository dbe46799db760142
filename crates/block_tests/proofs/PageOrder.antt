-- Of the arrangements of a block the ascending one has the greatest of Page's sums, and the descending one the least.
use Rattle.std.proofs.Common.{◌≡◌, ℕ, ◌+◌, ◌*◌, ◌≤◌, List, [], ◌∷◌, ◌++◌, length, reverse, cond, nat_eq, nat_le, refl, sym, ◌∙◌, ap, subst, arith, inl, inr}
use Rattle.std.specs.List.{sum, sum_by}
use Rattle.std.proofs.lemmas.Bool.Decides.{leb_tells}
use Rattle.std.proofs.lemmas.List.{length-reverse, reverse-append}
use Rattle.std.proofs.lemmas.List.Sums.{sum_by-append, sum_by-cons}
use Rattle.weights.proofs.Counted.{labelling_from_SameCounts}
use Rattle.weights.proofs.Members.{IsLabelling}
use Rattle.weights.specs.InOrder.{put_in}
use Rattle.weights.proofs.OneOrder.{sum_by-in_order, sum_by-put_in}
use Rattle.block_tests.specs.BlockTests.{page_sum}
use Rattle.block_tests.specs.BlockNetworks.{first_arrangement}
use Rattle.block_tests.proofs.Arranged.{length-first, order-first, sorted, sum_by-first}

-- counted from one place on, each cell counts once more
page-on : (j : ℕ) (xs : List ℕ) → page_sum (j + 1) xs ≡ sum xs + page_sum j xs
page-on j [] = refl
page-on j (x ∷ xs) = omega (arith, page-on (j + 1) xs, sum_by-cons (λ v. v) x xs)

page-cons : (x : ℕ) (xs : List ℕ) → page_sum 1 (x ∷ xs) ≡ x + sum xs + page_sum 1 xs
page-cons x xs = omega (arith, page-on 1 xs)

-- a cell that moves past lesser ones adds more
page-put : (x : ℕ) (ys : List ℕ) → page_sum 1 (x ∷ ys) ≤ page_sum 1 (put_in nat_le x ys)
page-put x [] = omega arith
page-put x (y ∷ ys) = elim (leb_tells x y) [
  | inl l ↦ rw l.0 (omega arith)
  | inr l ↦ rw l.0 (omega (arith, l.1, page-cons x (y ∷ ys), page-cons y ys, page-cons y (put_in nat_le x ys), page-cons x ys, page-put x ys, sum_by-put_in nat_le (λ v. v) x ys, sum_by-cons (λ v. v) y ys))
]

-- the ends of a list's sums
page-order : (xs : List ℕ) → page_sum 1 xs ≤ page_sum 1 (sorted xs)
page-order [] = omega arith
page-order (x ∷ xs) = omega (arith, page-put x (sorted xs), page-cons x xs, page-cons x (sorted xs), page-order xs, sum_by-in_order nat_le (λ v. v) xs)

pub page-most : (counts x : List ℕ) → IsLabelling counts x → page_sum 1 x ≤ page_sum 1 (first_arrangement counts)
page-most counts x l = subst (λ zs. page_sum 1 x ≤ page_sum 1 zs) (order-first counts x l) (page-order x)

-- ---- the same from the last cell to the first

page-append : (j : ℕ) (xs : List ℕ) (y : ℕ) → page_sum j (xs ++ y ∷ []) ≡ page_sum j xs + (j + length xs) * y
page-append j [] y = omega arith
page-append j (x ∷ xs) y = omega (arith, page-append (j + 1) xs y)

reverse-cons : (x : ℕ) (xs : List ℕ) → reverse (x ∷ xs) ≡ reverse xs ++ x ∷ []
reverse-cons x xs = reverse-append (x ∷ []) xs

sum_by-reverse : (f : ℕ → ℕ) (xs : List ℕ) → sum_by f (reverse xs) ≡ sum_by f xs
sum_by-reverse f [] = refl
sum_by-reverse f (x ∷ xs) = ap (sum_by f) (reverse-cons x xs) ∙ sum_by-append f (reverse xs) (x ∷ []) ∙ omega (arith, sum_by-reverse f xs, sum_by-cons f x xs, sum_by-cons f x [])

-- both ways together each cell counts once more than there are cells
pub page-both : (xs : List ℕ) → page_sum 1 xs + page_sum 1 (reverse xs) ≡ (length xs + 1) * sum xs
page-both [] = refl
page-both (x ∷ xs) =
    let back : page_sum 1 (reverse (x ∷ xs)) ≡ page_sum 1 (reverse xs) + (1 + length xs) * x = ap (page_sum 1) (reverse-cons x xs) ∙ page-append 1 (reverse xs) x ∙ ap (λ n. page_sum 1 (reverse xs) + (1 + n) * x) (length-reverse xs) in
    let all : sum (x ∷ xs) ≡ x + sum xs = sum_by-cons (λ v. v) x xs in
    rw (back, all) (omega (arith, page-both xs, page-cons x xs))

pub page-least : (counts x : List ℕ) → IsLabelling counts x → page_sum 1 (reverse (first_arrangement counts)) ≤ page_sum 1 x
page-least counts x l =
    let first : List ℕ = first_arrangement counts in
    let turned : IsLabelling counts (reverse x) = labelling_from_SameCounts counts x (reverse x) (sym (length-reverse x)) (λ i. sym (sum_by-reverse (λ v. cond (nat_eq v i) 1 0) x)) l in
    let long : length first ≡ length x = length-first counts ∙ sym l.over.long in
    let all : sum first ≡ sum x = sym (sum_by-first (λ v. v) counts x l) in
    let here : page_sum 1 first + page_sum 1 (reverse first) ≡ (length x + 1) * sum x = page-both first ∙ ap (λ n. (n + 1) * sum first) long ∙ ap (λ n. (length x + 1) * n) all in
    omega (arith, here, page-both x, page-most counts (reverse x) turned)
