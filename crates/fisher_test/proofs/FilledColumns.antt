-- Fillings of the later columns, one column after another.
use Rattle.std.proofs.Common.{◌≡◌, ℕ, zero, suc, ◌+◌, ◌-◌, ◌*◌, ◌^◌, ◌<◌, ◌≤◌, min, ◌⊎◌, true, List, [], ◌∷◌, ◌++◌, length, take, drop, get_or, set, inl, inr, refl, sym, ◌∙◌, ap, arith, add-one, drop-cons, length-append}
use Rattle.std.specs.List.{sum}
use Rattle.std.proofs.Math.Nat.{mul-le-mul, mul_comm}
use Rattle.std.proofs.lemmas.Bool.{cases_lt}
use Rattle.std.proofs.lemmas.List.{length-set}
use Rattle.weights.specs.declared.TheConstants.{MAX}
use Rattle.weights.specs.Grouped.{fits}
use Rattle.weights.specs.Labellings.{number_of_labellings}
use Rattle.weights.proofs.Binomials.{binomial-all, number_of_labellings-cons}
use Rattle.weights.proofs.FirstLabel.{number_of_labellings-none, number_of_labellings-positive}
use Rattle.weights.proofs.Appended.{get-front, get-last}
use Rattle.weights.proofs.OneOrder.{length-in_order}
use Rattle.completion_bounds.specs.Fillings.{evenly_divided, falling, filled_in_turn, greatest_weight, is_at_least, least_weight, product_by}
use Rattle.completion_bounds.proofs.Capped.{cap-later, column-within}
use Rattle.completion_bounds.proofs.Factorials.{factorial, factorials, total-filled_in_turn, total-is, weight-falls}
use Rattle.completion_bounds.proofs.FallingSizes.{falling-twice, total-falling, within-falling}
use Rattle.completion_bounds.proofs.TableWeights.{filled_in_turn-within, fits-within, least-all, sum-falling, within-fits}
use Rattle.label_network.specs.LabelSteps.{IsHeld}
use Rattle.label_network.proofs.Rows.{grown, written}
use Rattle.label_network.proofs.Sizes.{fewer-labellings, held-within}
use Rattle.table_sums.proofs.ColumnSums.{IsMultiplied, IsMultipliedOn, multiplied-next, next-of}
use Rattle.networks.proofs.Swaps.{swap_at}
use Rattle.sorted_tables.proofs.Reordering.{even-order}
use Rattle.fisher_test.specs.WeightSteps.{AreHighs, AreRoomy}

parts : (xs : List ℕ) (i y : ℕ) (ys : List ℕ) → drop i xs ≡ y ∷ ys → (get_or xs i 0 ≡ y) × (drop (i + 1) xs ≡ ys)
parts xs i y ys e = rw add-one (by xs i e)
  where
    by : (xs : List ℕ) (i : ℕ) → drop i xs ≡ y ∷ ys → (get_or xs i 0 ≡ y) × (drop (suc i) xs ≡ ys)
    by [] zero e = absurd (cc e)
    by [] (suc i) e = absurd (cc e)
    by (x ∷ xs) zero e = (cc e, cc e)
    by (x ∷ xs) (suc i) e = by xs i e

length-filled : (units : ℕ) (rows : List ℕ) → length (filled_in_turn units rows) ≡ length rows
length-filled units [] = refl
length-filled units (row ∷ rows) = ap suc (length-filled (units - min row units) rows)

-- the cells before row i are written
pub record IsFilling (units : ℕ) (rows : List ℕ) (i left : ℕ) (cells : List ℕ) : Type 0 where
  pub long : length cells ≡ length rows
  pub filled : take i cells ≡ take i (filled_in_turn units rows)
  pub rest : drop i (filled_in_turn units rows) ≡ filled_in_turn left (drop i rows)

pub filling-first : (units : ℕ) (rows cells : List ℕ) → length cells ≡ length rows → IsFilling units rows 0 units cells
filling-first units rows cells e = record { long = e; filled = refl; rest = refl }

pub filling-next : (units : ℕ) (rows : List ℕ) (i left : ℕ) (cells : List ℕ) (cell : ℕ) → i < length rows → cell ≡ min (get_or rows i 0) left → IsFilling units rows i left cells → IsFilling units rows (i + 1) (left - cell) (set cells i cell)
filling-next units rows i left cells cell h e f =
    let later : drop i rows ≡ get_or rows i 0 ∷ drop (i + 1) rows = rw add-one (drop-cons rows i 0 h) in
    let here = parts (filled_in_turn units rows) i (min (get_or rows i 0) left) (filled_in_turn (left - min (get_or rows i 0) left) (drop (i + 1) rows)) (f.rest ∙ ap (filled_in_turn left) later) in
    record {
      long = length-set cells i cell ∙ f.long;
      filled = grown cells (filled_in_turn units rows) i cell 0 (omega (arith, h, f.long)) (omega (arith, h, length-filled units rows)) f.filled (e ∙ sym here.0);
      rest = rw e here.1;
    }

pub filling-last : (units : ℕ) (rows : List ℕ) (i left : ℕ) (cells : List ℕ) → i ≡ length rows → IsFilling units rows i left cells → cells ≡ filled_in_turn units rows
filling-last units rows i left cells e f = written cells (filled_in_turn units rows) i (f.long ∙ sym e) (length-filled units rows ∙ sym e) f.filled

-- a column that fits the first row
no_units : (rows : List ℕ) → sum (filled_in_turn 0 rows) ≡ 0
no_units rows = omega (arith, total-is (filled_in_turn 0 rows), total-filled_in_turn 0 rows)

one-way : (units : ℕ) (xs : List ℕ) → sum xs ≡ 0 → 1 ≡ number_of_labellings (units ∷ xs)
one-way units xs e =
    let whole : units + sum xs ≡ units = omega (arith, e) in
    sym (number_of_labellings-cons units xs ∙ rw (whole, binomial-all units, number_of_labellings-none xs e) refl)

pub first-row : (units : ℕ) (rows : List ℕ) → 1 ≤ length rows → units ≤ get_or rows 0 0 → 1 ≡ number_of_labellings (filled_in_turn units rows)
first-row units [] some h = absurd (omega (arith, some))
first-row units (row ∷ rows) some h =
    let all : min row units ≡ units = omega (arith, h) in
    let none : units - min row units ≡ 0 = omega (arith, h) in
    rw (none, all) (one-way units (filled_in_turn 0 rows) (no_units rows))

module _ (units : ℕ) (rows : List ℕ) (room : units ≤ sum rows) where
  pub filled-whole : units ≡ sum (filled_in_turn units rows)
  filled-whole = omega (arith, total-is (filled_in_turn units rows), total-filled_in_turn units rows, total-is rows, room)

  filled-fits : fits (filled_in_turn units rows) rows ≡ true
  filled-fits = within-fits (filled_in_turn units rows) rows (filled_in_turn-within units rows)

  pub filled-held : (width : ℕ) → IsHeld width rows → IsHeld width (filled_in_turn units rows)
  filled-held width h = held-within width rows (filled_in_turn units rows) filled-fits h

  pub filled-few : number_of_labellings rows ≤ MAX → number_of_labellings (filled_in_turn units rows) ≤ MAX
  filled-few h = omega (arith, fewer-labellings (filled_in_turn units rows) rows filled-fits, h)

-- sizes in their order
product-swap : (f : ℕ → ℕ) (i : ℕ) (r : List ℕ) → product_by f (swap_at i r) ≡ product_by f r
product-swap f i [] = refl
product-swap f zero (m ∷ []) = refl
product-swap f zero (m ∷ n ∷ r) = transposed (f n) (f m) (product_by f r)
  where
    transposed : (a b c : ℕ) → a * (b * c) ≡ b * (a * c)
    transposed a b c = grind arith
product-swap f (suc i) (m ∷ r) = ap (λ n. f m * n) (product-swap f i r)

pub product-falling : (f : ℕ → ℕ) (r : List ℕ) → product_by f (falling r) ≡ product_by f r
product-falling f r = even-order is_at_least (product_by f) (product-swap f) r

factorials-are : (ms : List ℕ) → factorials ms ≡ product_by factorial ms
factorials-are [] = refl
factorials-are (m ∷ ms) = ap (λ n. factorial m * n) (factorials-are ms)

factorials-falling : (ms : List ℕ) → factorials (falling ms) ≡ factorials ms
factorials-falling ms = factorials-are (falling ms) ∙ product-falling factorial ms ∙ sym (factorials-are ms)

pub length-falling : (ms : List ℕ) → length (falling ms) ≡ length ms
length-falling = length-in_order is_at_least

-- of sizes that remain of rows
pub roomy : (width : ℕ) (rows r : List ℕ) → 1 ≤ length r → length r ≤ 8 → sum r < 2 ^ 64 → number_of_labellings r ≤ MAX → fits r rows ≡ true → IsHeld width (falling rows) → AreRoomy width (falling r)
roomy width rows r some few units total within held = record {
  some = omega (arith, some, length-falling r);
  few = omega (arith, few, length-falling r);
  units = omega (arith, units, sum-falling r);
  held = held-within width (falling rows) (falling r) (within-fits (falling r) (falling rows) (within-falling r rows (fits-within r rows within))) held;
  total_fits = omega (arith, total, weight-falls r (falling r) (sym (total-falling r)) (rw (factorials-falling r) (omega arith)));
}

pub falling-level : (r columns : List ℕ) → sum r ≡ sum columns → sum (falling r) ≡ sum columns
falling-level r columns e = sum-falling r ∙ e

pub over-falling : (r columns : List ℕ) → product_by (least_weight (falling r)) columns ≡ product_by (least_weight r) columns
over-falling r [] = refl
over-falling r (c ∷ cs) = rw (falling-twice r, over-falling r cs) refl

-- products of the columns' weights

pub some-weight : (rows : List ℕ) (c : ℕ) → 1 ≤ least_weight rows c
some-weight rows c = number_of_labellings-positive (filled_in_turn c (falling rows))

least-positive : (rows cs : List ℕ) → 1 ≤ product_by (least_weight rows) cs
least-positive rows [] = omega arith
least-positive rows (c ∷ cs) = omega (arith, mul-le-mul {n₁ = 1} {m₁ = 1} (some-weight rows c) (least-positive rows cs))

pub least-next : (rows columns : List ℕ) (j : ℕ) {all product : ℕ} → j < length columns → IsMultiplied (product_by (least_weight rows) (drop j columns)) all product → IsMultipliedOn (least_weight rows (get_or columns j 0)) (product_by (least_weight rows) (drop (j + 1) columns)) all product
least-next rows columns j h k = multiplied-next (some-weight rows (get_or columns j 0)) (least-positive rows (drop (j + 1) columns)) (rw (next-of columns j 0 h) at k)

pub in-turn : (rows : List ℕ) (c : ℕ) → falling rows ≡ rows → number_of_labellings (filled_in_turn c rows) ≡ least_weight rows c
in-turn rows c e = ap (λ ms. number_of_labellings (filled_in_turn c ms)) (sym e)

pub least-fits : (rows columns : List ℕ) → sum rows ≡ sum columns → number_of_labellings rows ≤ MAX → product_by (least_weight rows) columns ≤ MAX
least-fits rows columns e h = omega (arith, least-all rows columns (total-is rows ∙ e ∙ sym (total-is columns)), h)

pub column-fits : (rows columns : List ℕ) (j : ℕ) → sum rows ≡ sum columns → j < length columns → get_or columns j 0 ≤ sum rows
column-fits rows columns j e h = omega (arith, column-within columns j h, total-is columns, e)

-- the greatest weights, from the last stage back

pub record AreHighsTo (rows : ℕ) (columns : List ℕ) (j product : ℕ) (highs : List ℕ) : Type 0 where
  pub within : j ≤ length columns
  pub highs_are : AreHighs rows columns j highs
  pub value : product ≡ min (product_by (greatest_weight rows) (drop j columns)) MAX
  pub some : 1 ≤ product
  pub most : product ≤ MAX

module _ (rows : ℕ) (columns : List ℕ) where
  pub highs-next : (j product : ℕ) (highs : List ℕ) (c w : ℕ) → 0 < j → c ≡ get_or columns (j - 1) 0 → w ≡ min (product * number_of_labellings (evenly_divided c rows)) MAX → AreHighsTo rows columns j product highs → AreHighsTo rows columns (j - 1) w (highs ++ w ∷ [])
  highs-next zero product highs c w h e f k = absurd (omega (arith, h))
  highs-next (suc j) product highs c w h e f k =
      let back : suc j - 1 ≡ j = omega arith in
      let column : c ≡ get_or columns j 0 = rw back at e in
      let later : drop j columns ≡ get_or columns j 0 ∷ drop (suc j) columns = drop-cons columns j 0 (omega (arith, k.within)) in
      let some : 1 ≤ greatest_weight rows c = number_of_labellings-positive (evenly_divided c rows) in
      let value : w ≡ min (product_by (greatest_weight rows) (drop j columns)) MAX =
      f ∙ ap (λ n. min (n * greatest_weight rows c) MAX) k.value
      ∙ cap-later (product_by (greatest_weight rows) (drop (suc j) columns)) (greatest_weight rows c) MAX some
      ∙ ap (λ n. min n MAX) (mul_comm (product_by (greatest_weight rows) (drop (suc j) columns)) (greatest_weight rows c))
      ∙ ap (λ n. min (greatest_weight rows n * product_by (greatest_weight rows) (drop (suc j) columns)) MAX) column
      ∙ ap (λ cs. min (product_by (greatest_weight rows) cs) MAX) (sym later) in
      rw back (record {
        within = omega (arith, k.within);
        highs_are = record {
          long = omega (arith, length-append highs (w ∷ []), k.highs_are.long, k.within);
          each = λ i l. by i l value (cases_lt i (length highs));
        };
        value = value;
        some = omega (arith, f, mul-le-mul {n₁ = 1} {m₁ = 1} k.some some);
        most = omega (arith, f);
      })
    where
      by : (i : ℕ) → i < length (highs ++ w ∷ []) → w ≡ min (product_by (greatest_weight rows) (drop j columns)) MAX → (i < length highs) ⊎ (length highs ≤ i) → get_or (highs ++ w ∷ []) i 0 ≡ min (product_by (greatest_weight rows) (drop (length columns - i) columns)) MAX
      by i l value (inl before) = get-front highs w 0 i before ∙ k.highs_are.each i before
      by i l value (inr after) =
          let last : i ≡ length highs = omega (arith, l, after, length-append highs (w ∷ [])) in
          let place : length columns - i ≡ j = omega (arith, last, k.highs_are.long, k.within) in
          rw place (get-last highs w 0 i last ∙ value)

-- the product of a stage
pub high-at : (rows : ℕ) (columns highs : List ℕ) (g rest : ℕ) → AreHighs rows columns 0 highs → g ≤ length columns → rest ≤ MAX → min rest (get_or highs (length columns - g) 0) ≡ min rest (product_by (greatest_weight rows) (drop g columns))
high-at rows columns highs g rest a h fits =
    let place : length columns - (length columns - g) ≡ g = omega (arith, h) in
    let value : get_or highs (length columns - g) 0 ≡ min (product_by (greatest_weight rows) (drop g columns)) MAX = a.each (length columns - g) (omega (arith, a.long)) ∙ ap (λ k. min (product_by (greatest_weight rows) (drop k columns)) MAX) place in
    omega (arith, value, fits)
