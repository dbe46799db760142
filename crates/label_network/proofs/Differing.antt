-- The choices of a column are all different.
use Rattle.std.proofs.Common.{◌≡◌, ◌≢◌, ℕ, zero, suc, ◌+◌, ◌≤◌, List, [], ◌∷◌, get_or, All, AllPairs, Bool, true, false, ◌&&◌, refl, sym, ◌∙◌, ap, arith, nat_eq}
use Rattle.std.specs.Prelude.{Contains}
use Rattle.std.specs.List.{count_by, sum}
use Rattle.std.specs.Cmp.Lexicographic.{pointwise}
use Rattle.std.proofs.lemmas.List.{get_or_default}
use Rattle.std.proofs.lemmas.List.Elements.{All-from_recursion}
use Rattle.std.proofs.lemmas.List.Kept.{AllPairs-cons}
use Rattle.std.proofs.lemmas.List.Sums.{sum_by-cons}
use Rattle.weights.specs.Grouped.{choices, fits}
use Rattle.weights.proofs.ChoiceLists.{IsChoice, choices-each}
use Rattle.weights.proofs.Chosen.{chosen_once, one_if}
use Rattle.weights.proofs.Filters.{all_weaker}
use Rattle.weights.proofs.Members.{same_refl}

-- how often a list of counts stands in another list, where one more is put before that
grown : (x y : List ℕ) (xs : List (List ℕ)) → count_by (pointwise nat_eq x) (y ∷ xs) ≡ one_if (pointwise nat_eq x y) + count_by (pointwise nat_eq x) xs
grown x y xs = sum_by-cons (λ w. one_if (pointwise nat_eq x w)) y xs

once-where : (x y : List ℕ) → y ≡ x → one_if (pointwise nat_eq x y) ≡ 1
once-where x y e = ap one_if (ap (pointwise nat_eq x) e ∙ same_refl x)

counts-itself : (xs : List (List ℕ)) (x : List ℕ) → Contains xs x → 1 ≤ count_by (pointwise nat_eq x) xs
counts-itself [] x c = absurd (omega (arith, c.1))
counts-itself (y ∷ xs) x (zero, below, e) = omega (arith, once-where x y e, grown x y xs)
counts-itself (y ∷ xs) x (suc k, below, e) =
    omega (arith, (counts-itself xs x (k, omega (arith, below), e)), grown x y xs)

-- lists that are each counted at most once differ
differing : (xs : List (List ℕ)) → All (λ x. count_by (pointwise nat_eq x) xs ≤ 1) xs → AllPairs ◌≢◌ xs
differing [] once = λ i j d below within. absurd (omega (arith, within))
differing (x ∷ xs) once =
    AllPairs-cons ◌≢◌ x xs head (differing xs tail)
  where
    head : All (λ y. x ≢ y) xs
    head k d within same =
        let most : count_by (pointwise nat_eq x) (x ∷ xs) ≤ 1 = once 0 d (omega arith) in
        absurd (omega (arith, once-where x x refl, (counts-itself xs x (k, within, get_or_default xs k x d within ∙ sym same)), most, grown x x xs))

    tail : All (λ y. count_by (pointwise nat_eq y) xs ≤ 1) xs
    tail k d within =
        let most : count_by (pointwise nat_eq (get_or xs k d)) (x ∷ xs) ≤ 1 = once (suc k) d (omega (arith, within)) in
        omega (arith, most, grown (get_or xs k d) x xs)

one-most : (b : Bool) → one_if b ≤ 1
one-most true = omega arith
one-most false = omega arith

pub choices-differ : (c : ℕ) (r : List ℕ) → AllPairs ◌≢◌ (choices c r)
choices-differ c r =
    differing (choices c r) (All-from_recursion (λ x. count_by (pointwise nat_eq x) (choices c r) ≤ 1) (choices c r)
    (all_weaker (IsChoice c r) (λ x. count_by (pointwise nat_eq x) (choices c r) ≤ 1) (λ x o. omega (arith, chosen_once c r x o.long, one-most (nat_eq c (sum x) && fits x r))) (choices c r) (choices-each c r)))
