-- A table of the numbers of ways to choose, filled row by row.
use Rattle.std.proofs.Common.{◌≡◌, ℕ, zero, suc, ◌+◌, ◌-◌, ◌*◌, ◌<◌, ◌≤◌, List, [], ◌∷◌, ◌++◌, length, get_or, min, refl, sym, ◌∙◌, ap, subst, arith, length-append, ◌⊎◌, inl, inr}
use Rattle.std.proofs.lemmas.Bool.{cases_lt}
use Rattle.networks.proofs.Totals.{any_default}
use Rattle.weights.specs.Numbers.{binomial}
use Rattle.weights.specs.declared.TheConstants.{MAX}
use Rattle.weights.proofs.Appended.{get-front, get-last}
use Rattle.weights.proofs.Binomials.{binomial-zero, binomial-pascal, binomial-over, binomial-left_out, binomial-all}
use Rattle.label_network.specs.LabelSteps.{AreBinomials, capped}

pub capped-small : (n : ℕ) → n ≤ MAX → capped n ≡ n
capped-small n h = omega arith

pub capped-most : (n : ℕ) → capped n ≤ MAX
capped-most n = omega arith

capped-plus : (a b : ℕ) → min (capped a + capped b) MAX ≡ capped (a + b)
capped-plus a b = omega arith

-- a place has one row and one place in it
pub one_place : (w m j r p : ℕ) → j < w → p < w → m * w + j ≡ r * w + p → (m ≡ r) × (j ≡ p)
one_place w zero j zero p h i e = (refl, omega arith)
one_place w zero j (suc r) p h i e = absurd (omega arith)
one_place w (suc m) j zero p h i e = absurd (omega arith)
one_place w (suc m) j (suc r) p h i e = let both = one_place w m j r p h i (omega arith) in (ap suc both.0, both.1)

pub binomials-none : (width : ℕ) → 1 ≤ width → (table : List ℕ) → table ≡ [] → AreBinomials width (0 * width) table
binomials-none width some table e = rw e (record { wide = some; long_is = omega arith; each = λ m j h l. absurd (omega arith) })

pub binomials-more : (width row place : ℕ) (table : List ℕ) (entry : ℕ) → place < width → AreBinomials width (row * width + place) table → entry ≡ capped (binomial row place) → AreBinomials width (row * width + (place + 1)) (table ++ entry ∷ [])
binomials-more width row place table entry within w e = record {
  wide = w.wide;
  long_is = omega (arith, length-append table (entry ∷ []), w.long_is);
  each = λ m j h l. by m j h l (cases_lt (m * width + j) (row * width + place));
}
  where
    by : (m j : ℕ) → j < width → m * width + j < row * width + (place + 1) → (m * width + j < row * width + place) ⊎ (row * width + place ≤ m * width + j) → get_or (table ++ entry ∷ []) (m * width + j) 0 ≡ capped (binomial m j)
    by m j h l (inl before) = get-front table entry 0 (m * width + j) (omega (arith, before, w.long_is)) ∙ w.each m j h before
    by m j h l (inr after) =
        let both = one_place width m j row place h within (omega (arith, l, after)) in
        get-last table entry 0 (m * width + j) (omega (arith, l, after, w.long_is)) ∙ e ∙ ap (λ k. capped (binomial k place)) (sym both.0) ∙ ap (λ k. capped (binomial m k)) (sym both.1)

pub binomials-row : (width row place : ℕ) (table : List ℕ) → place ≡ width → AreBinomials width (row * width + place) table → AreBinomials width ((row + 1) * width) table
binomials-row width row place table e w = let same : row * width + place ≡ (row + 1) * width = omega (arith, e) in subst (λ n. AreBinomials width n table) same w

pub binomials-start : (width row : ℕ) (table : List ℕ) → AreBinomials width (row * width) table → AreBinomials width (row * width + 0) table
binomials-start width row table w = let same : row * width ≡ row * width + 0 = omega arith in subst (λ n. AreBinomials width n table) same w

-- the first place of a row
pub first-entry : (row place : ℕ) → place ≡ 0 → 1 ≡ capped (binomial row place)
first-entry row place e = rw (e, binomial-zero row) (omega arith)

-- the first row
pub first-row : (row place : ℕ) → (place ≡ 0 → ⊥) → row ≡ 0 → 0 ≡ capped (binomial row place)
first-row row zero some e = absurd (some refl)
first-row row (suc p) some e = rw (e, binomial-over 0 (suc p) (omega arith)) (omega arith)

-- the two entries above a place
module _ (width row place : ℕ) (table : List ℕ) (w : AreBinomials width (row * width + place) table) (within : place < width) (later : place ≡ 0 → ⊥) (below : row ≡ 0 → ⊥) where
  above_left : get_or table (length table - width - 1) 0 ≡ capped (binomial (row - 1) (place - 1))
  above_left = by row place w within later below
    where
      by : (row place : ℕ) → AreBinomials width (row * width + place) table → place < width → (place ≡ 0 → ⊥) → (row ≡ 0 → ⊥) → get_or table (length table - width - 1) 0 ≡ capped (binomial (row - 1) (place - 1))
      by zero place w within later below = absurd (below refl)
      by (suc r) zero w within later below = absurd (later refl)
      by (suc r) (suc p) w within later below =
          let at : length table - width - 1 ≡ r * width + p = omega (arith, w.long_is) in
          let one : suc r - 1 ≡ r = omega arith in
          let two : suc p - 1 ≡ p = omega arith in
          rw (at, one, two) (w.each r p (omega arith) (omega arith))

  above : get_or table (length table - width) 0 ≡ capped (binomial (row - 1) place)
  above = by row w below
    where
      by : (row : ℕ) → AreBinomials width (row * width + place) table → (row ≡ 0 → ⊥) → get_or table (length table - width) 0 ≡ capped (binomial (row - 1) place)
      by zero w below = absurd (below refl)
      by (suc r) w below =
          let at : length table - width ≡ r * width + place = omega (arith, w.long_is) in
          let one : suc r - 1 ≡ r = omega arith in
          rw (at, one) (w.each r place within (omega arith))

  pub left-most : get_or table (length table - width - 1) 0 ≤ MAX
  left-most = rw above_left (capped-most (binomial (row - 1) (place - 1)))

  pub above-most : get_or table (length table - width) 0 ≤ MAX
  above-most = rw above (capped-most (binomial (row - 1) place))

  pub entry-sum : min (get_or table (length table - width - 1) 0 + get_or table (length table - width) 0) MAX ≡ capped (binomial row place)
  entry-sum = rw (above_left, above, capped-plus (binomial (row - 1) (place - 1)) (binomial (row - 1) place)) (ap capped (sym (pascal row place later below)))
    where
      pascal : (row place : ℕ) → (place ≡ 0 → ⊥) → (row ≡ 0 → ⊥) → binomial row place ≡ binomial (row - 1) (place - 1) + binomial (row - 1) place
      pascal zero place later below = absurd (below refl)
      pascal (suc r) zero later below = absurd (later refl)
      pascal (suc r) (suc p) later below =
          let one : suc r - 1 ≡ r = omega arith in
          let two : suc p - 1 ≡ p = omega arith in
          rw (one, two) (binomial-pascal r p)

-- what is read
row_within : (n most width : ℕ) → n < most → n * width + width ≤ most * width
row_within n zero width h = absurd (omega (arith, h))
row_within zero (suc most) width h = omega arith
row_within (suc n) (suc most) width h = omega (arith, row_within n most width (omega (arith, h)))

pub read : (width most : ℕ) (table : List ℕ) → AreBinomials width (most * width) table → (n j x : ℕ) → n < most → j < width → binomial n j ≤ MAX → x ≡ get_or table (n * width + j) x → x ≡ binomial n j
read width most table w n j x h i fits e =
    let low : n * width + j < most * width = omega (arith, row_within n most width h, i) in
    e ∙ any_default table (n * width + j) x 0 (omega (arith, low, w.long_is)) ∙ w.each n j i low ∙ capped-small (binomial n j) fits

pub read-left_out : (width most : ℕ) (table : List ℕ) → AreBinomials width (most * width) table → (n k j x : ℕ) → n < most → k ≤ n → j ≡ n - k → j < width → binomial n k ≤ MAX → x ≡ get_or table (n * width + j) x → x ≡ binomial n k
read-left_out width most table w n k j x h few e i fits at =
    let turned : binomial n j ≡ binomial n k = ap (binomial n) e ∙ binomial-left_out n k few in
    read width most table w n j x h i (omega (arith, turned, fits)) at ∙ turned

-- the last factor of a product of binomials is 1
pub last-factor : (product left c rest all : ℕ) → c ≡ left → product * binomial left c * rest ≡ all → product * rest ≡ all
last-factor product left c rest all e h =
    (let same : product * 1 * rest ≡ product * rest = omega arith in sym same) ∙ ap (λ b. product * b * rest) (sym (ap (binomial left) e ∙ binomial-all left)) ∙ h
