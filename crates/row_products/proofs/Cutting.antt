-- Products that are cut off above the greatest weight.
use Rattle.std.proofs.Common.{◌≡◌, ℕ, zero, suc, ◌+◌, ◌-◌, ◌*◌, ◌/◌, ◌<◌, ◌≤◌, min, drop, get_or, add-one, drop-cons, drop_of_length-le, List, [], ◌∷◌, length, Bool, true, false, refl, ◌∙◌, ap, sym, subst, arith}
use Rattle.std.specs.Int.{div_ceil}
use Rattle.std.specs.Prelude.{nat_le}
use Rattle.std.proofs.Math.Nat.{div-eq_of_lt, mod-eq_of_lt, mul-le-mul_right}
use Rattle.std.proofs.lemmas.Bool.{leb-true}
use Rattle.weights.specs.declared.TheConstants.{MAX}
use Rattle.completion_bounds.specs.Fillings.{filled_in_turn, product_by}
use Rattle.completion_bounds.proofs.Capped.{IsMultiplied, cap-later, multiplied-next}
use Rattle.completion_bounds.proofs.Factorials.{factorial_least}
use Rattle.row_products.specs.Factorials.{cut}
use Rattle.row_products.specs.RowProducts.{factorial}
use Rattle.weights.proofs.Products.{product-some}

-- a factor that is cut off leaves a cut product as it is
pub cut-inner : (p w : ℕ) → 1 ≤ p → cut (p * cut w) ≡ cut (p * w)
cut-inner p w h = ap cut (turned p (cut w)) ∙ cap-later w p (MAX + 1) h ∙ ap cut (turned w p)
  where
    turned : (a b : ℕ) → a * b ≡ b * a
    turned a b = grind arith

pub cut-some : (n : ℕ) → 1 ≤ n → 1 ≤ cut n
cut-some n h = omega (arith, h)

pub products_some : (f : ℕ → ℕ) → ((c : ℕ) → 1 ≤ f c) → (cs : List ℕ) → 1 ≤ product_by f cs
products_some f each [] = omega arith
products_some f each (c ∷ cs) = product-some (f c) (product_by f cs) (each c) (products_some f each cs)

-- factorials are no less for greater numbers, and from the 34th on they pass the greatest weight
factorial-rises : (n d : ℕ) → factorial n ≤ factorial (d + n)
factorial-rises n zero = rw (none n) (omega arith)
  where
    none : (n : ℕ) → zero + n ≡ n
    none n = omega arith
factorial-rises n (suc d) =
    let more : 1 * factorial (d + n) ≤ suc (d + n) * factorial (d + n) = mul-le-mul_right (factorial (d + n)) (omega arith) in
    rw (pulled d n) (omega (arith, factorial-rises n d, more))
  where
    pulled : (d n : ℕ) → suc d + n ≡ suc (d + n)
    pulled d n = omega arith

passed : MAX + 1 ≤ factorial 34
passed = leb-true (MAX + 1) (factorial 34) refl

pub factorial-cut : (n : ℕ) → 35 ≤ n → cut (factorial n) ≡ MAX + 1
factorial-cut n h =
    let more : factorial 34 ≤ factorial n = subst (λ k. factorial 34 ≤ factorial k) (whole n h) (factorial-rises 34 (n - 34)) in
    omega (arith, more, passed)
  where
    whole : (n : ℕ) → 35 ≤ n → (n - 34) + 34 ≡ n
    whole n h = omega (arith, h)

-- one more of the numbers that are multiplied
pub next-cut : (weight : ℕ → ℕ) (each : (c : ℕ) → 1 ≤ weight c) (columns : List ℕ) (j product : ℕ) → j < length columns → IsMultiplied weight columns (MAX + 1) j product → IsMultiplied weight columns (MAX + 1) (j + 1) (cut (product * cut (weight (get_or columns j 0))))
next-cut weight each columns j product within f =
    subst (IsMultiplied weight columns (MAX + 1) (j + 1)) (sym (cut-inner product (weight (get_or columns j 0)) f.some)) (multiplied-next weight each columns (MAX + 1) j product within f)

-- columns that are filled in turn: the cells that are still to come, of the units that are left
pub record IsFilling (all w left : ℕ) (columns : List ℕ) : Type 0 where
  pub value : cut (w * product_by factorial (filled_in_turn left columns)) ≡ cut all
  pub some : 1 ≤ w
  pub most : w ≤ MAX + 1

pub filling-next : (all w left : ℕ) (columns : List ℕ) (i cell : ℕ) → i < length columns → cell ≡ min (get_or columns i 0) left → IsFilling all w left (drop i columns) → IsFilling all (cut (w * cut (factorial cell))) (left - cell) (drop (i + 1) columns)
filling-next all w left columns i cell within e f =
    let parts : drop i columns ≡ get_or columns i 0 ∷ drop (i + 1) columns = rw add-one (drop-cons columns i 0 within) in
    let here : IsFilling all w left (get_or columns i 0 ∷ drop (i + 1) columns) = subst (IsFilling all w left) parts f in
    subst (λ n. IsFilling all (cut (w * cut (factorial n))) (left - n) (drop (i + 1) columns)) (sym e) (step (get_or columns i 0) (drop (i + 1) columns) here)
  where
    grouped : (a b c : ℕ) → (a * b) * c ≡ a * (b * c)
    grouped a b c = grind arith

    step : (c : ℕ) (cs : List ℕ) → IsFilling all w left (c ∷ cs) → IsFilling all (cut (w * cut (factorial (min c left)))) (left - min c left) cs
    step c cs g =
        let rest = product_by factorial (filled_in_turn (left - min c left) cs) in
        record {
          value =
              ap (λ n. cut (n * rest)) (cut-inner w (factorial (min c left)) g.some)
              ∙ cap-later (w * factorial (min c left)) rest (MAX + 1) (products_some factorial factorial_least (filled_in_turn (left - min c left) cs))
              ∙ ap cut (grouped w (factorial (min c left)) rest)
              ∙ g.value;
          some = cut-some _ (product-some w (cut (factorial (min c left))) g.some (cut-some _ (factorial_least (min c left))));
          most = omega arith;
        }

pub filling-last : (all w left : ℕ) (columns : List ℕ) (i : ℕ) → length columns ≤ i → IsFilling all w left (drop i columns) → w ≡ cut all
filling-last all w left columns i h f =
    whole w f.most ∙ ap (λ cs. cut (w * product_by factorial (filled_in_turn left cs))) (sym (drop_of_length-le columns h)) ∙ f.value
  where
    whole : (w : ℕ) → w ≤ MAX + 1 → w ≡ cut (w * 1)
    whole w h = omega (arith, h)

-- a divisor that is cut off gives the quotients of small numbers
pub down-cut : (a b : ℕ) → a ≤ MAX → a / cut b ≡ a / b
down-cut a b h = by (nat_le b (MAX + 1)) refl
  where
    by : (t : Bool) → nat_le b (MAX + 1) ≡ t → a / cut b ≡ a / b
    by true e = let same : cut b ≡ b = grind (arith, e) in ap (λ n. a / n) same
    by false e =
        let last : cut b ≡ MAX + 1 = grind (arith, e) in
        let past : MAX + 1 < b = grind (arith, e) in
        ap (λ n. a / n) last ∙ div-eq_of_lt (omega (arith, h)) ∙ sym (div-eq_of_lt (omega (arith, h, past)))

small-up : (a k : ℕ) → a < k → div_ceil a k ≡ min 1 a
small-up a k h = rw (div-eq_of_lt h, mod-eq_of_lt h) (omega arith)

pub up-cut : (a b : ℕ) → a ≤ MAX → div_ceil a (cut b) ≡ div_ceil a b
up-cut a b h = by (nat_le b (MAX + 1)) refl
  where
    by : (t : Bool) → nat_le b (MAX + 1) ≡ t → div_ceil a (cut b) ≡ div_ceil a b
    by true e = let same : cut b ≡ b = grind (arith, e) in ap (λ n. div_ceil a n) same
    by false e =
        let last : cut b ≡ MAX + 1 = grind (arith, e) in
        let past : MAX + 1 < b = grind (arith, e) in
        ap (λ n. div_ceil a n) last ∙ small-up a (MAX + 1) (omega (arith, h)) ∙ sym (small-up a b (omega (arith, h, past)))
