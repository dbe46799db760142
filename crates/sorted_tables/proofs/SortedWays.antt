-- The ways through sorted rooms are the tables, each with its columns put in the order in which the sizes stand.
use Rattle.std.proofs.lemmas.List.{length-map}
use Rattle.std.proofs.Common.{◌≡◌, ℕ, zero, suc, ◌+◌, ◌-◌, ◌*◌, ◌<◌, List, [], ◌∷◌, map, drop, length, refl, sym, ◌∙◌, ap, arith, add-one, drop-cons, drop_of_length-le, mul_assoc, lt-ltb, one-mul}
use Rattle.std.specs.Prelude.{ℤ, pos, slice_index}
use Rattle.std.specs.List.{filter, sum_by, sum}
use Rattle.weights.specs.Grouped.{choices, columns_of, minus, table_weight}
use Rattle.weights.specs.Labellings.{labellings, number_of_labellings}
use Rattle.weights.proofs.GroupingLaw.{by_columns, by_columns-step, grouping}
use Rattle.weights.proofs.Sums.{sum_by-fronts, sum_by-same, sum_by-same_where, sum_by-scaled}
use Rattle.weights.proofs.ChoiceLists.{IsChoice, choices-each}
use Rattle.completion_bounds.specs.Fillings.{falling, is_at_least}
use Rattle.networks.specs.Completions.{paths, path_weight}
use Rattle.room_network.specs.Plans.{Plan, alone, way_weight}
use Rattle.label_network.proofs.LabelPlans.{sizes-back}
use Rattle.sorted_tables.specs.GatheredChoices.{gathered, gathered_weight, is_gathered}
use Rattle.sorted_tables.specs.SortedRooms.{GivesTables, rising, sorted_plan}
use Rattle.sorted_tables.proofs.GatheredSums.{labellings-gathered, left-gathered, sum-weights}
use Rattle.sorted_tables.proofs.Reordering.{column_swaps, length-swaps, ordered, ordering, row_swaps, swaps, weight-columns, weight-rows}
use Rattle.weights.proofs.OneOrder.{length-in_order}
use Rattle.std.specs.Prelude.{nat_le}

-- the cells of rows put in the order in which their sizes fall
abbrev fallen : List ℕ → List ℕ → List ℕ
fallen r x = swaps (ordering is_at_least r) x

-- n columns of a table, each after the first in the order in which the sizes stand after those before, and gathered
abbrev pub sorted_way : ℕ → List ℕ → List (List ℕ) → List (List ℕ)
sorted_way zero r w = []
sorted_way (suc n) r [] = []
sorted_way (suc n) r (x ∷ w) = gathered r x ∷ sorted_way n (falling (minus r x)) (map (fallen (minus r x)) w)

pub weight-sorted : (n : ℕ) (r : List ℕ) (w : List (List ℕ)) → length w ≡ n → table_weight (sorted_way n r w) ≡ table_weight w
weight-sorted zero r [] e = refl
weight-sorted zero r (x ∷ w) e = absurd (omega (arith, e))
weight-sorted (suc n) r [] e = absurd (omega (arith, e))
weight-sorted (suc n) r (x ∷ w) e =
    ap (λ v. v * table_weight (sorted_way n (falling (minus r x)) (map (fallen (minus r x)) w))) (labellings-gathered r x)
    ∙ ap (λ v. number_of_labellings x * v)
    (weight-sorted n (falling (minus r x)) (map (fallen (minus r x)) w) (length-map w (fallen (minus r x)) ∙ omega (arith, e))
    ∙ weight-rows (ordering is_at_least (minus r x)) w)

-- the tables of rows in falling order
by_fallen : (cs r : List ℕ) (f : List (List ℕ) → ℕ) → by_columns cs (falling r) f ≡ by_columns cs r (λ w. f (map (fallen r) w))
by_fallen cs r f = ap (λ s. by_columns cs s f) (sym (ordered is_at_least r)) ∙ row_swaps (ordering is_at_least r) cs r f

module _ (columns rows : List ℕ) where
  abbrev pub plan : Plan
  plan = sorted_plan columns rows

  -- along a choice
  along : ℕ → ℕ → List ℕ → (List (List ℕ) → ℕ) → List ℕ → ℕ
  along n g r f c =
      sum_by (λ w. path_weight (alone plan) (g + 1) (map pos (falling (minus r c))) w * f (c ∷ w)) (paths (alone plan) n (g + 1) (map pos (falling (minus r c))))

  arc : (n g : ℕ) (r c : List ℕ) (f : List (List ℕ) → ℕ)
      → sum_by (λ w. path_weight (alone plan) g (map pos r) (c ∷ w) * f (c ∷ w)) (paths (alone plan) n (g + 1) (map pos (falling (minus r c)))) ≡ gathered_weight r c * along n g r f c
  unfolding along
  arc n g r c f =
      let next : List ℤ = map pos (falling (minus r c)) in
      sum_by-same _ _ (λ w.
      ap (λ s. (gathered_weight s c * path_weight (alone plan) (g + 1) (map pos (falling (minus s c))) w) * f (c ∷ w)) (sizes-back r)
      ∙ mul_assoc (gathered_weight r c) (path_weight (alone plan) (g + 1) next w) (f (c ∷ w))) (paths (alone plan) n (g + 1) next)
      ∙ sum_by-scaled (gathered_weight r c) (λ w. path_weight (alone plan) (g + 1) next w * f (c ∷ w)) (paths (alone plan) n (g + 1) next)

  -- along the gathered form of a choice go the tables that begin with it
  along-gathered : (n g : ℕ) (r x : List ℕ) (f : List (List ℕ) → ℕ) → length x ≡ length r
      → ((s : List ℕ) (h : List (List ℕ) → ℕ) → sum_by (λ w. path_weight (alone plan) (g + 1) (map pos s) w * h w) (paths (alone plan) n (g + 1) (map pos s)) ≡ by_columns (drop (g + 1) columns) s (λ w. h (sorted_way n s w)))
      → along n g r f (gathered r x) ≡ by_columns (drop (g + 1) columns) (minus r x) (λ w. f (sorted_way (suc n) r (x ∷ w)))
  unfolding along
  along-gathered n g r x f l later =
      later (falling (minus r (gathered r x))) (λ w. f (gathered r x ∷ w))
      ∙ ap (λ s. by_columns (drop (g + 1) columns) s (λ w. f (gathered r x ∷ sorted_way n s w))) (left-gathered r x l)
      ∙ by_fallen (drop (g + 1) columns) (minus r x) (λ w. f (gathered r x ∷ sorted_way n (falling (minus r x)) w))

  -- from each stage on
  pub ways_from : (n g : ℕ) (r : List ℕ) (f : List (List ℕ) → ℕ) → g + n ≡ length columns → sum_by (λ w. path_weight (alone plan) g (map pos r) w * f w) (paths (alone plan) n g (map pos r)) ≡ by_columns (drop g columns) r (λ w. f (sorted_way n r w))
  ways_from zero g r f e = rw (drop_of_length-le columns {i = g} (omega arith)) refl
  ways_from (suc n) g r f e =
      let before : g < length columns = omega arith in
      let split : drop g columns ≡ slice_index columns g ∷ drop (g + 1) columns = rw add-one (drop-cons columns g 0 before) in
      let column : ℕ = slice_index columns g in
      rw (lt-ltb g (length columns) before, split, sizes-back r)
      (sum_by-fronts (λ w. path_weight (alone plan) g (map pos r) w * f w) (λ c. c) (λ c. paths (alone plan) n (g + 1) (map pos (falling (minus r c)))) (filter (is_gathered r) (choices column r))
      ∙ sum_by-same _ _ (λ c. arc n g r c f) (filter (is_gathered r) (choices column r))
      ∙ sum-weights column r (along n g r f)
      ∙ sum_by-same_where (IsChoice column r) _ _ (λ x o. ap (λ v. number_of_labellings x * v) (along-gathered n g r x f o.long (λ s h. ways_from n (g + 1) s h (omega arith)))) (choices column r) (choices-each column r)
      ∙ sym (by_columns-step column (drop (g + 1) columns) r (λ w. f (sorted_way (suc n) r w))))

-- the columns and the rows of a table put in order, and then its sizes
abbrev cut_in_order : List ℕ → List ℕ → List ℕ → List (List ℕ)
cut_in_order columns rows xs =
    sorted_way (length columns) (falling rows) (map (fallen rows) (swaps (ordering nat_le columns) (columns_of (length rows) columns xs)))

long_columns : (k : ℕ) (cs xs : List ℕ) → length (columns_of k cs xs) ≡ length cs
long_columns k [] xs = refl
long_columns k (c ∷ cs) xs = ap suc (long_columns k cs (drop c xs))

module _ (columns rows : List ℕ) where
  abbrev ordered_plan : Plan
  ordered_plan = sorted_plan (rising columns) (falling rows)

  orders_give : sum columns ≡ sum rows → (f : List (List ℕ) → ℕ) → sum_by (λ w. way_weight ordered_plan w * f w) (paths (alone ordered_plan) (length (rising columns) - 0) 0 (map pos (falling rows))) ≡ sum_by (λ xs. 1 * f (cut_in_order columns rows xs)) (labellings rows)
  orders_give level f =
      let n : ℕ = length columns in
      let long : length (rising columns) ≡ n = length-in_order nat_le columns in
      let all : length (rising columns) - 0 ≡ n = omega (arith, long) in
      ap (λ m. sum_by (λ w. way_weight ordered_plan w * f w) (paths (alone ordered_plan) m 0 (map pos (falling rows)))) all
      ∙ ways_from (rising columns) (falling rows) n 0 (falling rows) f (omega (arith, long))
      ∙ by_fallen (rising columns) rows (λ w. f (sorted_way n (falling rows) w))
      ∙ ap (λ cs. by_columns cs rows (λ w. f (sorted_way n (falling rows) (map (fallen rows) w)))) (sym (ordered nat_le columns))
      ∙ column_swaps (ordering nat_le columns) columns rows (λ w. f (sorted_way n (falling rows) (map (fallen rows) w)))
      ∙ grouping columns rows (λ w. f (sorted_way n (falling rows) (map (fallen rows) (swaps (ordering nat_le columns) w)))) level
      ∙ sum_by-same _ _ (λ xs. sym (one-mul (f (cut_in_order columns rows xs)))) (labellings rows)

  cut-weighs : (xs : List ℕ) → table_weight (cut_in_order columns rows xs) ≡ table_weight (columns_of (length rows) columns xs)
  cut-weighs xs =
      let table : List (List ℕ) = columns_of (length rows) columns xs in
      let turned : List (List ℕ) = swaps (ordering nat_le columns) table in
      weight-sorted (length columns) (falling rows) (map (fallen rows) turned) (length-map turned (fallen rows) ∙ length-swaps (ordering nat_le columns) table ∙ long_columns (length rows) columns xs)
      ∙ weight-rows (ordering is_at_least rows) turned
      ∙ weight-columns (ordering nat_le columns) table

  -- the law
  pub tables_give : sum columns ≡ sum rows → GivesTables columns rows
  tables_give level = record {
    cut = cut_in_order columns rows;
    gives = record { law = orders_give level };
    weighs = cut-weighs;
  }
