-- The bounds that the rows give: neither lets go of what it held as a column is chosen, at the end both are 1, and every table lies between.
use Rattle.std.proofs.Common.{◌≡◌, ℕ, zero, suc, ◌+◌, ◌*◌, ◌/◌, ◌<◌, ◌≤◌, List, [], ◌∷◌, length, refl, ◌∙◌, ap, sym, arith}
use Rattle.std.specs.Int.{div_ceil}
use Rattle.std.specs.List.{sum}
use Rattle.std.proofs.Math.Nat.{div-mul-le_self, le-div_iff_mul-le, mul-le-mul_left, mul-le-mul_right}
use Rattle.std.proofs.lemmas.Grind.{div_ceil_times}
use Rattle.std.proofs.lemmas.List.Elements.{All-from_recursion}
use Rattle.weights.specs.Grouped.{minus, table_weight, tables}
use Rattle.weights.specs.Labellings.{number_of_labellings}
use Rattle.weights.proofs.ChoiceLists.{IsChoice}
use Rattle.weights.proofs.Filters.{all_weaker}
use Rattle.weights.proofs.FirstLabel.{number_of_labellings-positive}
use Rattle.weights.proofs.Tables.{IsTable, tables-each}
use Rattle.completion_bounds.specs.Fillings.{evenly_divided, filled_in_turn, falling, HoldsWeights, LiesBetween, product_by}
use Rattle.completion_bounds.proofs.Factorials.{factorial as plain, factorials, IsWithin, total, total-filled_in_turn, total-is, weight-factorials, factorial_least}
use Rattle.completion_bounds.proofs.TableWeights.{filled, filled_in_turn-within, labellings-parts, left-total, within, within-fits, within-length}
use Rattle.weights.specs.declared.TheConstants.{MAX}
use Rattle.row_products.specs.declared.bounds.RowBounds.{RowBounds}
use Rattle.row_products.specs.Factorials.{cut}
use Rattle.row_products.specs.RowProducts.{bounds_by_rows, factorial, greatest_by_rows, greatest_product, least_by_rows, least_product}
use Rattle.row_products.proofs.Cutting.{down-cut, products_some, up-cut}
use Rattle.row_products.proofs.Products.{greatest-rows, least-rows, same-factorial}

pub greatest_some : (columns : List ℕ) (row : ℕ) → 1 ≤ greatest_product columns row
greatest_some columns row = products_some factorial factorial_least (filled_in_turn row (falling columns))

pub least_some : (columns row : ℕ) → 1 ≤ least_product columns row
least_some columns row = products_some factorial factorial_least (evenly_divided row columns)

-- quotients that are rounded

rounded-up : (a b : ℕ) → 1 ≤ b → a ≤ div_ceil a b * b
rounded-up a b h = (div_ceil_times a b (omega (arith, h))).0

up-least : (a b q : ℕ) → 1 ≤ b → a ≤ q * b → div_ceil a b ≤ q
up-least a b q h enough = by_contradiction (div_ceil a b) q (λ more. past more (div_ceil_times a b (omega (arith, h))).1)
  where
    past : q < div_ceil a b → div_ceil a b * b < a + b → ⊥
    past more close =
        let one : suc q * b ≤ div_ceil a b * b = mul-le-mul_right b (omega (arith, more)) in
        let two : suc q * b ≡ q * b + b = grind arith in
        absurd (omega (arith, one, two, close, enough))

    by_contradiction : (m n : ℕ) → (n < m → ⊥) → m ≤ n
    by_contradiction m n never = omega (arith, never)

-- the columns c and cs, of which c is chosen
module _ (c : ℕ) (cs r x : List ℕ) (o : IsChoice c r x) (level : total r ≡ c + total cs) where
  inside : IsWithin x r
  inside = within c r x o

  taken : total x ≡ c
  taken = filled c r x o

  left : total (minus r x) ≡ total cs
  left = omega (arith, left-total r x inside, taken, level)

  -- the weight of the choice times the factorials of its cells
  choice-weight : number_of_labellings x * factorials x ≡ factorial c
  choice-weight = weight-factorials x ∙ ap plain taken ∙ sym (same-factorial c)

  pub least-onward : least_by_rows r (c ∷ cs) ≤ number_of_labellings x * least_by_rows (minus r x) cs
  least-onward =
      up-least (factorial c * product_by factorial cs) (product_by (greatest_product (c ∷ cs)) r) (number_of_labellings x * least_by_rows (minus r x) cs)
      (products_some (greatest_product (c ∷ cs)) (greatest_some (c ∷ cs)) r)
      (enough (factorial c) (product_by factorial cs) (number_of_labellings x) (factorials x) (least_by_rows (minus r x) cs) (product_by (greatest_product cs) (minus r x)) (product_by (greatest_product (c ∷ cs)) r) choice-weight
      (rounded-up (product_by factorial cs) (product_by (greatest_product cs) (minus r x)) (products_some (greatest_product cs) (greatest_some cs) (minus r x)))
      (greatest-rows c cs r x inside (omega (arith, taken)) (omega (arith, left))))
    where
      enough : (f t s g q a b : ℕ) → s * g ≡ f → t ≤ q * a → g * a ≤ b → f * t ≤ (s * q) * b
      enough f t s g q a b e h j =
          let one : f * t ≤ f * (q * a) = mul-le-mul_left f h in
          let two : (s * g) * (q * a) ≡ (s * q) * (g * a) = grind arith in
          let three : (s * q) * (g * a) ≤ (s * q) * b = mul-le-mul_left (s * q) j in
          let four : f * (q * a) ≡ (s * q) * (g * a) = ap (λ n. n * (q * a)) (sym e) ∙ two in
          omega (arith, one, three, four)

  pub greatest-onward : number_of_labellings x * greatest_by_rows (minus r x) cs ≤ greatest_by_rows r (c ∷ cs)
  greatest-onward =
      (le-div_iff_mul-le {k = product_by (least_product (suc (length cs))) r} (omega (arith, products_some (least_product (suc (length cs))) (least_some (suc (length cs))) r))).1
      (enough (factorial c) (product_by factorial cs) (number_of_labellings x) (factorials x) (greatest_by_rows (minus r x) cs) (product_by (least_product (length cs)) (minus r x)) (product_by (least_product (suc (length cs))) r) choice-weight
      (div-mul-le_self (product_by factorial cs) (product_by (least_product (length cs)) (minus r x)))
      (least-rows cs r x inside (omega (arith, left))))
    where
      enough : (f t s g q a b : ℕ) → s * g ≡ f → q * a ≤ t → b ≤ g * a → (s * q) * b ≤ f * t
      enough f t s g q a b e h j =
          let one : f * (q * a) ≤ f * t = mul-le-mul_left f h in
          let two : (s * g) * (q * a) ≡ (s * q) * (g * a) = grind arith in
          let three : (s * q) * b ≤ (s * q) * (g * a) = mul-le-mul_left (s * q) j in
          let four : f * (q * a) ≡ (s * q) * (g * a) = ap (λ n. n * (q * a)) (sym e) ∙ two in
          omega (arith, one, three, four)

-- no columns are left

no-greatest : (r : List ℕ) → product_by (greatest_product []) r ≡ 1
no-greatest [] = refl
no-greatest (m ∷ r) = rw (no-greatest r) refl

no-least : (r : List ℕ) → total r ≡ 0 → product_by (least_product 0) r ≡ 1
no-least [] e = refl
no-least (zero ∷ r) e = rw (no-least r (omega (arith, e))) refl
no-least (suc m ∷ r) e = absurd (omega (arith, e))

pub least-ends : (r : List ℕ) → least_by_rows r [] ≡ 1
least-ends r = rw (no-greatest r) refl

pub greatest-ends : (r : List ℕ) → total r ≡ 0 → greatest_by_rows r [] ≡ 1
greatest-ends r e = rw (no-least r e) refl

-- every table lies between

table-least : (r cs : List ℕ) (table : List (List ℕ)) → total r ≡ total cs → IsTable cs r table → least_by_rows r cs ≤ table_weight table
table-least r [] [] e t = omega (arith, least-ends r)
table-least r [] (x ∷ table) e t = absurd t
table-least r (c ∷ cs) [] e t = absurd t
table-least r (c ∷ cs) (x ∷ table) e t =
    let rest : least_by_rows (minus r x) cs ≤ table_weight table = table-least (minus r x) cs table (left c cs r x t.0 e) t.1 in
    let more : number_of_labellings x * least_by_rows (minus r x) cs ≤ number_of_labellings x * table_weight table = mul-le-mul_left (number_of_labellings x) rest in
    omega (arith, least-onward c cs r x t.0 e, more)

table-greatest : (r cs : List ℕ) (table : List (List ℕ)) → total r ≡ total cs → IsTable cs r table → table_weight table ≤ greatest_by_rows r cs
table-greatest r [] [] e t = omega (arith, greatest-ends r e)
table-greatest r [] (x ∷ table) e t = absurd t
table-greatest r (c ∷ cs) [] e t = absurd t
table-greatest r (c ∷ cs) (x ∷ table) e t =
    let rest : table_weight table ≤ greatest_by_rows (minus r x) cs = table-greatest (minus r x) cs table (left c cs r x t.0 e) t.1 in
    let more : number_of_labellings x * table_weight table ≤ number_of_labellings x * greatest_by_rows (minus r x) cs = mul-le-mul_left (number_of_labellings x) rest in
    omega (arith, greatest-onward c cs r x t.0 e, more)

pub holds : (r cs : List ℕ) → sum r ≡ sum cs → HoldsWeights 1 r cs (least_by_rows r cs) (greatest_by_rows r cs)
holds r cs e =
    All-from_recursion (LiesBetween 1 (least_by_rows r cs) (greatest_by_rows r cs)) (tables cs r)
    (all_weaker (IsTable cs r) (LiesBetween 1 (least_by_rows r cs) (greatest_by_rows r cs)) each (tables cs r) (tables-each cs r))
  where
    level : total r ≡ total cs
    level = total-is r ∙ e ∙ sym (total-is cs)

    each : (table : List (List ℕ)) → IsTable cs r table → LiesBetween 1 (least_by_rows r cs) (greatest_by_rows r cs) table
    each table t = (omega (arith, table-least r cs table level t), omega (arith, table-greatest r cs table level t))

-- the lower one is no more than all labellings
pub least-all : (cs r : List ℕ) → total r ≡ total cs → least_by_rows r cs ≤ number_of_labellings r
least-all [] r e = omega (arith, least-ends r, number_of_labellings-positive r)
least-all (c ∷ cs) r e =
    let x = filled_in_turn c r in
    let inside = filled_in_turn-within c r in
    let here : total x ≡ c = omega (arith, e, total-filled_in_turn c r) in
    let choice : IsChoice c r x = record { long = within-length x r inside; whole = sym (total-is x) ∙ here; fitting = within-fits x r inside } in
    let rest : least_by_rows (minus r x) cs ≤ number_of_labellings (minus r x) = least-all cs (minus r x) (left c cs r x choice e) in
    let more : number_of_labellings x * least_by_rows (minus r x) cs ≤ number_of_labellings x * number_of_labellings (minus r x) = mul-le-mul_left (number_of_labellings x) rest in
    omega (arith, least-onward c cs r x choice e, more, labellings-parts r x inside)

-- what is found

empty : (cs : List ℕ) → length cs ≡ 0 → cs ≡ []
empty [] e = refl
empty (c ∷ cs) e = absurd (omega (arith, e))

abbrev bounds : ℕ → ℕ → RowBounds
bounds least greatest = record { least = least; greatest = greatest }

bounds-same : (a b l g : ℕ) → a ≡ l → b ≡ g → bounds a b ≡ bounds l g
bounds-same a b l g e f = rw (e, f) refl

pub ends : (r cs : List ℕ) → length cs ≡ 0 → sum r ≡ sum cs → (product_by factorial cs ≤ MAX) × (bounds 1 1 ≡ bounds_by_rows r cs)
ends r cs e level = rw (empty cs e) (omega arith, bounds-same 1 1 _ _ (sym (least-ends r)) (sym (greatest-ends r (total-is r ∙ level ∙ ap sum (empty cs e)))))

pub found : (r cs : List ℕ) (whole most fewest : ℕ) → whole ≡ cut (product_by factorial cs) → whole ≤ MAX → most ≡ cut (product_by (greatest_product cs) r) → fewest ≡ cut (product_by (least_product (length cs)) r)
    → (least : ℕ) → least ≡ div_ceil whole most → (product_by factorial cs ≤ MAX) × (bounds least (whole / fewest) ≡ bounds_by_rows r cs)
found r cs whole most fewest e small m f least d =
    let same : whole ≡ product_by factorial cs = omega (arith, e, small) in (
      omega (arith, e, small),
      bounds-same least (whole / fewest) _ _
          (d ∙ ap (λ n. div_ceil whole n) m ∙ up-cut whole (product_by (greatest_product cs) r) small ∙ ap (λ n. div_ceil n (product_by (greatest_product cs) r)) same)
          (ap (λ n. whole / n) f ∙ down-cut whole (product_by (least_product (length cs)) r) small ∙ ap (λ n. n / product_by (least_product (length cs)) r) same),
    )
