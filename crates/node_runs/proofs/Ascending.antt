-- Ascending numbers, and nodes whose keys they are.
use Rattle.std.proofs.Common.{◌≡◌, suc, ◌<◌, ◌-◌, List, [], ◌∷◌, ◌++◌, length, get_or, false, ap, arith}
use Rattle.std.specs.Prelude.{ℤ, ◌<ℤ◌, pos}
use Rattle.std.specs.List.{AllByRecursion, IsDistinct}
use Rattle.std.proofs.lemmas.Int.{ints}
use Rattle.weights.proofs.Filters.{all_weaker}
use Rattle.node_pool.specs.Nodes.{Node, key_eq, keys}
use Rattle.node_pool.proofs.Puts.{unlike}
use Rattle.node_runs.specs.RunSteps.{IsAscending, IsOver, lead, leads}

-- keys differ whose first numbers ascend
pub ascending-distinct : (nodes : List Node) → IsAscending (leads nodes) → IsDistinct key_eq (keys nodes)
unfolding IsDistinct
ascending-distinct [] up = tt
ascending-distinct (a ∷ nodes) up = (apart a nodes up.0, ascending-distinct nodes up.1)
  where
    less : (a b : Node) → lead a <ℤ lead b → key_eq a.key b.key ≡ false
    less a b h = unlike a.key b.key (λ e. let same : lead a ≡ lead b = ap (λ k. get_or k 0 (pos 0)) e in omega (arith, ints, h, same))

    apart : (a : Node) (nodes : List Node) → AllByRecursion (λ y. lead a <ℤ y) (leads nodes) → AllByRecursion (λ k. key_eq a.key k ≡ false) (keys nodes)
    apart a [] h = tt
    apart a (b ∷ nodes) h = (less a b h.0, apart a nodes h.1)

-- what is less than the first of ascending numbers is less than all
pub under : (z : ℤ) (ys : List ℤ) → IsAscending ys → (0 < length ys → z <ℤ get_or ys 0 (pos 0)) → AllByRecursion (λ y. z <ℤ y) ys
under z [] up first = tt
under z (y ∷ ys) up first =
    let low : z <ℤ y = first (omega arith) in
    (low, all_weaker (λ x. y <ℤ x) (λ x. z <ℤ x) (λ x h. omega (arith, ints, low, h)) ys up.0)

-- what is greater than the last of them is greater than all
pub over : (xs : List ℤ) (z : ℤ) → IsAscending xs → (0 < length xs → get_or xs (length xs - 1) (pos 0) <ℤ z) → IsOver z xs
over [] z up last = tt
over (x ∷ []) z up last = (last (omega arith), tt)
over (x ∷ y ∷ xs) z up last =
    let e : length (x ∷ y ∷ xs) - 1 ≡ suc (length (y ∷ xs) - 1) = omega arith in
    let low : get_or (x ∷ y ∷ xs) (length (x ∷ y ∷ xs) - 1) (pos 0) <ℤ z = last (omega arith) in
    let rest = over (y ∷ xs) z up.1 (λ some. rw e at low) in
    let first : x <ℤ y = up.0.0 in
    let next : y <ℤ z = rest.0 in
    (omega (arith, ints, first, next), rest)

pub ascending-front : (xs ys : List ℤ) → IsAscending (xs ++ ys) → IsAscending xs
ascending-front [] ys up = tt
ascending-front (x ∷ xs) ys up = (front (λ y. x <ℤ y) xs ys up.0, ascending-front xs ys up.1)
  where
    front : (P : ℤ → Type 0) (xs ys : List ℤ) → AllByRecursion P (xs ++ ys) → AllByRecursion P xs
    front P [] ys all = tt
    front P (x ∷ xs) ys all = (all.0, front P xs ys all.1)

pub ascending-behind : (xs ys : List ℤ) → IsAscending (xs ++ ys) → IsAscending ys
ascending-behind [] ys up = up
ascending-behind (x ∷ xs) ys up = ascending-behind xs ys up.1

-- a number is put between others
pub ascending-put : (xs ys : List ℤ) (z : ℤ) → IsAscending (xs ++ ys) → AllByRecursion (λ x. x <ℤ z) xs → AllByRecursion (λ y. z <ℤ y) ys → IsAscending (xs ++ z ∷ ys)
ascending-put [] ys z up low high = (high, up)
ascending-put (x ∷ xs) ys z up low high = (put (λ y. x <ℤ y) xs ys z up.0 low.0, ascending-put xs ys z up.1 low.1 high)
  where
    put : (P : ℤ → Type 0) (xs ys : List ℤ) (z : ℤ) → AllByRecursion P (xs ++ ys) → P z → AllByRecursion P (xs ++ z ∷ ys)
    put P [] ys z all here = (here, all)
    put P (x ∷ xs) ys z all here = (all.0, put P xs ys z all.1 here)
