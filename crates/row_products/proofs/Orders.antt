-- Columns that rise, from the last one on, are the columns with the greatest first.
use Rattle.std.proofs.Common.{◌≡◌, ℕ, ◌≤◌, List, [], ◌∷◌, true, sym, subst, arith, zero, suc, drop}
use Rattle.std.specs.Prelude.{nat_le, reverse}
use Rattle.std.specs.List.{AllByRecursion}
use Rattle.std.proofs.lemmas.List.{reverse-append}
use Rattle.std.proofs.lemmas.List.Sorted.{IsPermutation-refl, IsPermutation-reverse}
use Rattle.weights.specs.InOrder.{in_order}
use Rattle.weights.proofs.OneOrder.{IsInOrder, IsOrder, order-is, ordered-in_order}
use Rattle.weights.proofs.Filters.{all_push}
use Rattle.completion_bounds.specs.Fillings.{falling}
use Rattle.completion_bounds.proofs.Factorials.{Falls}
use Rattle.completion_bounds.proofs.FallingSizes.{sorted_is, Falls-push}
use Rattle.row_products.specs.RowProducts.{IsRising}

rising-order : IsOrder nat_le
rising-order = record {
  other = λ x y e. grind (arith, e);
  same = λ x y e f. grind (arith, e, f);
  chain = λ x y z e f. grind (arith, e, f);
}

-- each column is no greater than those that follow
pub rises : (columns : List ℕ) → IsRising columns → IsInOrder nat_le columns
rises columns e = subst (IsInOrder nat_le) e (ordered-in_order nat_le rising-order columns)

pub is-rising : (columns : List ℕ) → IsInOrder nat_le columns → IsRising columns
is-rising columns o = sym (order-is nat_le rising-order columns columns (IsPermutation-refl columns) o)

in_order-drop : (g : ℕ) (columns : List ℕ) → IsInOrder nat_le columns → IsInOrder nat_le (drop g columns)
in_order-drop zero columns o = o
in_order-drop (suc g) [] o = tt
in_order-drop (suc g) (c ∷ columns) o = in_order-drop g columns o.1

-- later columns rise as all do
pub rising-drop : (g : ℕ) (columns : List ℕ) → IsRising columns → IsRising (drop g columns)
rising-drop g columns e = is-rising (drop g columns) (in_order-drop g columns (rises columns e))

-- columns put in order rise
pub rising-twice : (columns : List ℕ) → IsRising (in_order nat_le columns)
rising-twice columns = is-rising (in_order nat_le columns) (ordered-in_order nat_le rising-order columns)

all_reverse : (x : ℕ) (xs : List ℕ) → AllByRecursion (λ y. nat_le x y ≡ true) xs → AllByRecursion (λ y. x ≤ y) (reverse xs)
all_reverse x [] a = tt
all_reverse x (y ∷ xs) a = subst (AllByRecursion (λ z. x ≤ z)) (sym (reverse-append (y ∷ []) xs)) (all_push (λ z. x ≤ z) (reverse xs) y (all_reverse x xs a.1) (at_most x y a.0))
  where
    at_most : (x y : ℕ) → nat_le x y ≡ true → x ≤ y
    at_most x y e = grind (arith, e)

falls-reverse : (xs : List ℕ) → IsInOrder nat_le xs → Falls (reverse xs)
falls-reverse [] o = tt
falls-reverse (x ∷ xs) o = subst Falls (sym (reverse-append (x ∷ []) xs)) (Falls-push (reverse xs) x (falls-reverse xs o.1) (all_reverse x xs o.0))

pub reversed : (columns : List ℕ) → IsRising columns → reverse columns ≡ falling columns
reversed columns e = sorted_is columns (reverse columns) (IsPermutation-reverse columns) (falls-reverse columns (rises columns e))
