-- An order comes of neighbours that change places, one pair after another.
use Rattle.std.proofs.lemmas.List.{map-id}
use Rattle.std.proofs.Common.{◌≡◌, ℕ, zero, suc, ◌*◌, ◌≤◌, List, [], ◌∷◌, ◌++◌, map, length, Bool, true, false, cond, refl, sym, ◌∙◌, ap, arith, nat_le}
use Rattle.std.specs.List.{AllByRecursion}
use Rattle.std.specs.List.Sorted.{IsPermutation, IsSorted}
use Rattle.std.specs.Ordering.{nat_cmp}
use Rattle.weights.specs.Grouped.{table_weight, tables}
use Rattle.weights.specs.InOrder.{in_order, put_in}
use Rattle.weights.specs.Labellings.{number_of_labellings}
use Rattle.weights.proofs.GroupingLaw.{by_columns}
use Rattle.weights.proofs.OneOrder.{IsInOrder, IsOrder, order-is}
use Rattle.weights.proofs.Sums.{sum_by-same}
use Rattle.completion_bounds.proofs.FallingSizes.{Rises, rises}
use Rattle.networks.proofs.Swaps.{length-swap, swap_at}
use Rattle.sorted_tables.proofs.ColumnSwaps.{factors, column_swap}
use Rattle.sorted_tables.specs.SortedRooms.{rising}
use Rattle.label_network.proofs.ChoiceSwaps.{labellings-swap}
use Rattle.sorted_tables.proofs.RowSwaps.{row_swap}

-- swaps at these places, one after another
abbrev pub swaps : {X : Type 0} → List ℕ → List X → List X
swaps [] xs = xs
swaps (i ∷ is) xs = swaps is (swap_at i xs)

pub length-swaps : {X : Type 0} (is : List ℕ) (xs : List X) → length (swaps is xs) ≡ length xs
length-swaps [] xs = refl
length-swaps (i ∷ is) xs = length-swaps is (swap_at i xs) ∙ length-swap i xs

swaps-later : {X : Type 0} (is : List ℕ) (x : X) (xs : List X) → swaps (map suc is) (x ∷ xs) ≡ x ∷ swaps is xs
swaps-later [] x xs = refl
swaps-later (i ∷ is) x xs = swaps-later is x (swap_at i xs)

swaps-both : {X : Type 0} (is js : List ℕ) (xs : List X) → swaps (is ++ js) xs ≡ swaps js (swaps is xs)
swaps-both [] js xs = refl
swaps-both (i ∷ is) js xs = swaps-both is js (swap_at i xs)

-- what swaps of neighbours leave is left by many
pub even-swaps : {X Y : Type 0} (v : List X → Y) → ((i : ℕ) (xs : List X) → v (swap_at i xs) ≡ v xs) → (is : List ℕ) (xs : List X) → v (swaps is xs) ≡ v xs
even-swaps v e [] xs = refl
even-swaps v e (i ∷ is) xs = even-swaps v e is (swap_at i xs) ∙ e i xs

module _ (may_precede : ℕ → ℕ → Bool) where
  -- where a number sinks to, and where all do
  abbrev sinking : ℕ → List ℕ → List ℕ
  sinking x [] = []
  sinking x (y ∷ ys) = cond (may_precede x y) [] (0 ∷ map suc (sinking x ys))

  abbrev pub ordering : List ℕ → List ℕ
  ordering [] = []
  ordering (x ∷ xs) = map suc (ordering xs) ++ sinking x (in_order may_precede xs)

  sunk : (x : ℕ) (ys : List ℕ) → swaps (sinking x ys) (x ∷ ys) ≡ put_in may_precede x ys
  sunk x [] = refl
  sunk x (y ∷ ys) = by (may_precede x y) (swaps-later (sinking x ys) y (x ∷ ys) ∙ ap (λ zs. y ∷ zs) (sunk x ys))
    where
      by : (b : Bool) → swaps (map suc (sinking x ys)) (y ∷ x ∷ ys) ≡ y ∷ put_in may_precede x ys → swaps (cond b [] (0 ∷ map suc (sinking x ys))) (x ∷ y ∷ ys) ≡ cond b (x ∷ y ∷ ys) (y ∷ put_in may_precede x ys)
      by true e = refl
      by false e = e

  pub ordered : (xs : List ℕ) → swaps (ordering xs) xs ≡ in_order may_precede xs
  ordered [] = refl
  ordered (x ∷ xs) =
      swaps-both (map suc (ordering xs)) (sinking x (in_order may_precede xs)) (x ∷ xs)
      ∙ ap (swaps (sinking x (in_order may_precede xs))) (swaps-later (ordering xs) x xs ∙ ap (λ ys. x ∷ ys) (ordered xs))
      ∙ sunk x (in_order may_precede xs)

  -- what swaps leave is left by the order
  pub even-order : {Y : Type 0} (v : List ℕ → Y) → ((i : ℕ) (xs : List ℕ) → v (swap_at i xs) ≡ v xs) → (xs : List ℕ) → v (in_order may_precede xs) ≡ v xs
  even-order v e xs = ap v (sym (ordered xs)) ∙ even-swaps v e (ordering xs) xs

-- rows that change places do so in each column of a table

map-twice : {X : Type 0} (f g : X → X) (xs : List X) → map f (map g xs) ≡ map (λ x. f (g x)) xs
map-twice f g [] = refl
map-twice f g (x ∷ xs) = ap (λ ys. f (g x) ∷ ys) (map-twice f g xs)

pub row_swaps : (is cs r : List ℕ) (f : List (List ℕ) → ℕ) → by_columns cs (swaps is r) f ≡ by_columns cs r (λ w. f (map (swaps is) w))
row_swaps [] cs r f = sum_by-same _ _ (λ w. ap (λ u. table_weight w * f u) (sym (map-id w))) (tables cs r)
row_swaps (i ∷ is) cs r f =
    row_swaps is cs (swap_at i r) f
    ∙ row_swap i cs r (λ w. f (map (swaps is) w))
    ∙ sum_by-same _ _ (λ w. ap (λ u. table_weight w * f u) (map-twice (swaps is) (swap_at i) w)) (tables cs r)

pub column_swaps : (is cs r : List ℕ) (f : List (List ℕ) → ℕ) → by_columns (swaps is cs) r f ≡ by_columns cs r (λ w. f (swaps is w))
column_swaps [] cs r f = refl
column_swaps (i ∷ is) cs r f = column_swaps is (swap_at i cs) r f ∙ column_swap i cs r (λ w. f (swaps is w))

-- and the weight of the table stays

pub weight-rows : (is : List ℕ) (w : List (List ℕ)) → table_weight (map (swaps is) w) ≡ table_weight w
weight-rows is [] = refl
weight-rows is (x ∷ w) =
    ap (λ n. n * table_weight (map (swaps is) w)) (even-swaps number_of_labellings labellings-swap is x)
    ∙ ap (λ n. number_of_labellings x * n) (weight-rows is w)

weight-swap : (i : ℕ) (w : List (List ℕ)) → table_weight (swap_at i w) ≡ table_weight w
weight-swap i [] = refl
weight-swap zero (x ∷ []) = refl
weight-swap zero (x ∷ y ∷ w) = factors (number_of_labellings y) (number_of_labellings x) (table_weight w)
weight-swap (suc i) (x ∷ w) = ap (λ n. number_of_labellings x * n) (weight-swap i w)

pub weight-columns : (is : List ℕ) (w : List (List ℕ)) → table_weight (swaps is w) ≡ table_weight w
weight-columns is w = even-swaps table_weight weight-swap is w

-- what std's sort gives is the rising order

rising-order : IsOrder nat_le
rising-order = record {
  other = λ x y e. grind (arith, e);
  same = λ x y e f. grind (arith, e, f);
  chain = λ x y z e f. grind (arith, e, f);
}

rises-ordered : (xs : List ℕ) → Rises xs → IsInOrder nat_le xs
rises-ordered [] r = tt
rises-ordered (x ∷ xs) r = (each xs r.0, rises-ordered xs r.1)
  where
    at_most : (x y : ℕ) → x ≤ y → nat_le x y ≡ true
    at_most x y h = grind (arith, h)

    each : (ys : List ℕ) → AllByRecursion (λ y. x ≤ y) ys → AllByRecursion (λ y. nat_le x y ≡ true) ys
    each [] a = tt
    each (y ∷ ys) a = (at_most x y a.0, each ys a.1)

pub rising-is : (xs ys : List ℕ) → IsPermutation xs ys → IsSorted nat_cmp ys → ys ≡ rising xs
rising-is xs ys p s = order-is nat_le rising-order xs ys p (rises-ordered ys (rises ys s))
