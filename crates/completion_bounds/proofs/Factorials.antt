-- Weights of fillings, compared by the factorials of their cells.
use Rattle.std.proofs.Common.{◌≡◌, ℕ, zero, suc, ◌+◌, ◌-◌, ◌*◌, ◌/◌, ◌%◌, ◌^◌, ◌<◌, ◌≤◌, ◌⊎◌, inl, inr, min, List, [], ◌∷◌, ◌++◌, length, refl, ◌∙◌, ap, sym, subst, arith}
use Rattle.std.specs.List.{AllByRecursion}
use Rattle.std.proofs.Math.Nat.{mul-le-mul_left, mul-le-mul_right, mul-le-mul, le_of_mul-le-mul_left, pow-succ', pow-zero, mod-lt, div-add-mod}
use Rattle.std.proofs.lemmas.Nat.{pow-add}
use Rattle.std.proofs.lemmas.List.{length-replicate, length-append, append-nil}
use Rattle.std.specs.Prelude.{replicate}
use Rattle.std.specs.List.{sum}
use Rattle.std.proofs.lemmas.List.Sums.{sum_by-cons}
use Rattle.weights.specs.Labellings.{number_of_labellings}
use Rattle.weights.specs.Numbers.{binomial}
use Rattle.weights.proofs.Binomials.{binomial-over, number_of_labellings-cons}
use Rattle.weights.proofs.FirstLabel.{number_of_labellings-none}
use Rattle.completion_bounds.specs.Fillings.{filled_in_turn, evenly_divided}

abbrev pub factorial : ℕ → ℕ
factorial zero = 1
factorial (suc n) = suc n * factorial n

-- the factorials of the cells, multiplied
abbrev pub factorials : List ℕ → ℕ
factorials [] = 1
factorials (x ∷ xs) = factorial x * factorials xs

-- the sum, which computes cell by cell
abbrev pub total : List ℕ → ℕ
total [] = 0
total (x ∷ xs) = x + total xs

pub total-is : (xs : List ℕ) → total xs ≡ sum xs
total-is [] = refl
total-is (x ∷ xs) = ap (λ n. x + n) (total-is xs) ∙ sym (sum_by-cons (λ v. v) x xs)

-- no row holds more than it may
abbrev pub IsWithin : List ℕ → List ℕ → Type 0
IsWithin [] [] = Unit {0}
IsWithin [] (m ∷ ms) = ⊥
IsWithin (x ∷ xs) [] = ⊥
IsWithin (x ∷ xs) (m ∷ ms) = (x ≤ m) × IsWithin xs ms

-- no row is greater than one before it
abbrev pub Falls : List ℕ → Type 0
Falls [] = Unit {0}
Falls (m ∷ ms) = AllByRecursion (λ k. k ≤ m) ms × Falls ms

pub no_labellings : number_of_labellings [] ≡ 1
no_labellings = number_of_labellings-none [] refl

pub labellings-first : (x : ℕ) (xs : List ℕ) → number_of_labellings (x ∷ xs) ≡ binomial (x + total xs) x * number_of_labellings xs
labellings-first x xs = number_of_labellings-cons x xs ∙ ap (λ n. binomial (x + n) x * number_of_labellings xs) (sym (total-is xs))

pub factorial_least : (n : ℕ) → 1 ≤ factorial n
factorial_least zero = omega arith
factorial_least (suc n) = let h = mul-le-mul {n₁ = 1} {m₁ = 1} {n₂ = suc n} (omega arith) (factorial_least n) in omega (arith, h)

factorials_least : (xs : List ℕ) → 1 ≤ factorials xs
factorials_least [] = omega arith
factorials_least (x ∷ xs) = let h = mul-le-mul {n₁ = 1} {m₁ = 1} (factorial_least x) (factorials_least xs) in omega (arith, h)

-- d units moved from a cell to one that holds at least as many as are left raise the product
pub move_units : (q y d : ℕ) → q ≤ y → factorial (d + q) * factorial y ≤ factorial (d + y) * factorial q
move_units q y zero h = rw (none q, none y) (either (factorial q) (factorial y))
  where
    none : (k : ℕ) → zero + k ≡ k
    none k = omega arith

    either : (a b : ℕ) → a * b ≤ b * a
    either a b = grind arith
move_units q y (suc d) h =
    let one : factorial (suc d + q) ≡ suc (d + q) * factorial (d + q) = ap factorial (pulled d q) in
    let two : factorial (suc d + y) ≡ suc (d + y) * factorial (d + y) = ap factorial (pulled d y) in
    let three : suc (d + q) * (factorial (d + q) * factorial y) ≤ suc (d + y) * (factorial (d + y) * factorial q) = mul-le-mul {n₁ = suc (d + q)} (omega (arith, h)) (move_units q y d h) in
    rw (one, two) (grouped (suc (d + q)) (factorial (d + q)) (factorial y) (suc (d + y)) (factorial (d + y)) (factorial q) three)
  where
    pulled : (d q : ℕ) → suc d + q ≡ suc (d + q)
    pulled d q = omega arith

    grouped : (a b c e f g : ℕ) → a * (b * c) ≤ e * (f * g) → (a * b) * c ≤ (e * f) * g
    grouped a b c e f g h = grind (arith, h)

-- two cells with one sum: the more uneven, the greater the product
pub two_cells : (x y p q : ℕ) → x + y ≡ p + q → x ≤ p → y ≤ p → factorial x * factorial y ≤ factorial p * factorial q
two_cells x y p q e h j =
    let one : (x - q) + q ≡ x = omega (arith, e, h, j) in
    let two : (x - q) + y ≡ p = omega (arith, e, h, j) in
    subst (λ u. factorial u * factorial y ≤ factorial p * factorial q) one (subst (λ u. factorial ((x - q) + q) * factorial y ≤ factorial u * factorial q) two (move_units q y (x - q) (omega (arith, e, h, j))))

-- what the others hold is poured into a row that may hold at least as much as any of them
record Poured (m a : ℕ) (ys ms : List ℕ) : Type 0 where
  pub top : ℕ
  pub cells : List ℕ
  pub full : top ≡ min m (a + total ys)
  pub within : IsWithin cells ms
  pub kept : top + total cells ≡ a + total ys
  pub grown : factorial a * factorials ys ≤ factorial top * factorials cells

pour : (m a : ℕ) (ys ms : List ℕ) → a ≤ m → AllByRecursion (λ k. k ≤ m) ms → IsWithin ys ms → Poured m a ys ms
pour m a [] [] h l w = record { top = a; cells = []; full = omega (arith, h); within = tt; kept = refl; grown = omega arith }
pour m a [] (k ∷ ms) h l w = absurd w
pour m a (y ∷ ys) [] h l w = absurd w
pour m a (y ∷ ys) (k ∷ ms) h l w = with_rest (pour m (min m (a + y)) ys ms (omega arith) l.1 w.1)
  where
    moved : factorial a * factorial y ≤ factorial (min m (a + y)) * factorial ((a + y) - min m (a + y))
    moved = two_cells a y (min m (a + y)) ((a + y) - min m (a + y)) (omega arith) (omega (arith, h)) (omega (arith, w.0, l.0))

    regroup : (a y s g r t z : ℕ) → a * y ≤ g * r → g * s ≤ t * z → a * (y * s) ≤ t * (r * z)
    regroup a y s g r t z h j =
        let one : (a * y) * s ≤ (g * r) * s = mul-le-mul_right s h in
        let two : r * (g * s) ≤ r * (t * z) = mul-le-mul_left r j in
        grind (arith, one, two)

    with_rest : Poured m (min m (a + y)) ys ms → Poured m a (y ∷ ys) (k ∷ ms)
    with_rest p = record {
      top = p.top;
      cells = ((a + y) - min m (a + y)) ∷ p.cells;
      full = omega (arith, p.full);
      within = (omega (arith, h, w.0), p.within);
      kept = omega (arith, p.kept);
      grown = regroup (factorial a) (factorial y) (factorials ys) (factorial (min m (a + y))) (factorial ((a + y) - min m (a + y))) (factorial p.top) (factorials p.cells) moved p.grown;
    }

-- filling the rows in turn, the roomiest first, gives the greatest product
pub filled_in_turn-most : (xs ms : List ℕ) → Falls ms → IsWithin xs ms → factorials xs ≤ factorials (filled_in_turn (total xs) ms)
filled_in_turn-most [] [] f w = omega arith
filled_in_turn-most [] (m ∷ ms) f w = absurd w
filled_in_turn-most (x ∷ xs) [] f w = absurd w
filled_in_turn-most (x ∷ xs) (m ∷ ms) f w =
    let p = pour m x xs ms w.0 f.0 w.1 in
    let rest : factorials p.cells ≤ factorials (filled_in_turn (total p.cells) ms) = filled_in_turn-most p.cells ms f.1 p.within in
    let more : factorial p.top * factorials p.cells ≤ factorial p.top * factorials (filled_in_turn (total p.cells) ms) = mul-le-mul_left (factorial p.top) rest in
    let left : total p.cells ≡ (x + total xs) - min m (x + total xs) = omega (arith, p.kept, p.full) in
    subst (λ t. factorial x * factorials xs ≤ factorial t * factorials (filled_in_turn ((x + total xs) - min m (x + total xs)) ms)) p.full
    (subst (λ u. factorial x * factorials xs ≤ factorial p.top * factorials (filled_in_turn u ms)) left (omega (arith, p.grown, more)))

-- powers of b against factorials, from x on: b at most as great as the next factors, and at least as great as those up to it
powers_below : (b q d : ℕ) → b ≤ suc q → factorial q * b ^ d ≤ factorial (d + q)
powers_below b q zero h = rw (none q, pow-zero b) (omega arith)
  where
    none : (k : ℕ) → zero + k ≡ k
    none k = omega arith
powers_below b q (suc d) h =
    rw (pulled d q, pow-succ' b d) (regroup (factorial q) b (b ^ d) (suc (d + q)) (factorial (d + q)) (omega (arith, h)) (powers_below b q d h))
  where
    pulled : (d q : ℕ) → factorial (suc d + q) ≡ suc (d + q) * factorial (d + q)
    pulled d q = ap factorial (sooner d q)
      where
        sooner : (d q : ℕ) → suc d + q ≡ suc (d + q)
        sooner d q = omega arith

    regroup : (f b p n g : ℕ) → b ≤ n → f * p ≤ g → f * (b * p) ≤ n * g
    regroup f b p n g h j = let one : b * (f * p) ≤ n * g = mul-le-mul h j in grind (arith, one)

powers_above : (b x d : ℕ) → d + x ≤ b → factorial (d + x) ≤ factorial x * b ^ d
powers_above b x zero h = rw (none x, pow-zero b) (omega arith)
  where
    none : (k : ℕ) → zero + k ≡ k
    none k = omega arith
powers_above b x (suc d) h =
    rw (pulled d x, pow-succ' b d) (regroup (factorial x) b (b ^ d) (suc (d + x)) (factorial (d + x)) (omega (arith, h)) (powers_above b x d (omega (arith, h))))
  where
    pulled : (d q : ℕ) → factorial (suc d + q) ≡ suc (d + q) * factorial (d + q)
    pulled d q = ap factorial (sooner d q)
      where
        sooner : (d q : ℕ) → suc d + q ≡ suc (d + q)
        sooner d q = omega arith

    regroup : (f b p n g : ℕ) → n ≤ b → g ≤ f * p → n * g ≤ f * (b * p)
    regroup f b p n g h j = let one : n * g ≤ b * (f * p) = mul-le-mul h j in grind (arith, one)

-- one cell against q units
tangent : (q x : ℕ) → factorial q * suc q ^ x ≤ factorial x * suc q ^ q
tangent q x = by (q - x) (x - q) refl refl
  where
    up : (d : ℕ) → x ≡ d + q → factorial q * suc q ^ x ≤ factorial x * suc q ^ q
    up d e = rw (e, pow-add (suc q) d q) (regroup (factorial q) (suc q ^ d) (suc q ^ q) (factorial (d + q)) (powers_below (suc q) q d (omega arith)))
      where
        regroup : (f p r g : ℕ) → f * p ≤ g → f * (p * r) ≤ g * r
        regroup f p r g h = let one : (f * p) * r ≤ g * r = mul-le-mul_right r h in grind (arith, one)

    down : (b d : ℕ) → d + x ≤ b → factorial (d + x) * b ^ x ≤ factorial x * b ^ (d + x)
    down b d h = rw (pow-add b d x) (regroup (factorial (d + x)) (b ^ x) (factorial x) (b ^ d) (powers_above b x d h))
      where
        regroup : (g r f p : ℕ) → g ≤ f * p → g * r ≤ f * (p * r)
        regroup g r f p h = let one : g * r ≤ (f * p) * r = mul-le-mul_right r h in grind (arith, one)

    by : (m n : ℕ) → q - x ≡ m → x - q ≡ n → factorial q * suc q ^ x ≤ factorial x * suc q ^ q
    by zero n e f = up n (omega (arith, e, f))
    by (suc m) n e f = subst (λ u. factorial u * suc q ^ x ≤ factorial x * suc q ^ u) (same m e) (down (suc q) (suc m) (omega (arith, e)))
      where
        same : (m : ℕ) → q - x ≡ suc m → suc m + x ≡ q
        same m e = omega (arith, e)

-- all cells against q units each
tangents : (q : ℕ) (xs : List ℕ) → factorial q ^ length xs * suc q ^ total xs ≤ factorials xs * suc q ^ (length xs * q)
tangents q [] = rw (pow-zero (factorial q), pow-zero (suc q), none q, pow-zero (suc q)) (omega arith)
  where
    none : (q : ℕ) → 0 * q ≡ 0
    none q = omega arith
tangents q (x ∷ xs) =
    rw (pow-succ' (factorial q) (length xs), pow-add (suc q) x (total xs), longer (length xs) q, pow-add (suc q) q (length xs * q))
    (regroup (factorial q) (factorial q ^ length xs) (suc q ^ x) (suc q ^ total xs) (factorial x) (factorials xs) (suc q ^ q) (suc q ^ (length xs * q)) (tangent q x) (tangents q xs))
  where
    longer : (n q : ℕ) → suc n * q ≡ q + n * q
    longer n q = grind arith

    regroup : (f g p r x y s t : ℕ) → f * p ≤ x * s → g * r ≤ y * t → (f * g) * (p * r) ≤ (x * y) * (s * t)
    regroup f g p r x y s t h j = let one : (f * p) * (g * r) ≤ (x * s) * (y * t) = mul-le-mul h j in grind (arith, one)

-- cells of q and of q + 1 units
abbrev pub IsEven : ℕ → List ℕ → Type 0
IsEven q ys = AllByRecursion (λ y. (y ≡ q) ⊎ (y ≡ suc q)) ys

touches : (q y : ℕ) → (y ≡ q) ⊎ (y ≡ suc q) → factorial y * suc q ^ q ≤ factorial q * suc q ^ y
touches q y (inl e) = rw e (omega arith)
touches q y (inr e) = rw (e, pow-succ' (suc q) q) (regroup (suc q) (factorial q) (suc q ^ q))
  where
    regroup : (b f p : ℕ) → (b * f) * p ≤ f * (b * p)
    regroup b f p = grind arith

all_touch : (q : ℕ) (ys : List ℕ) → IsEven q ys → factorials ys * suc q ^ (length ys * q) ≤ factorial q ^ length ys * suc q ^ total ys
all_touch q [] a = rw (pow-zero (factorial q), pow-zero (suc q), none q, pow-zero (suc q)) (omega arith)
  where
    none : (q : ℕ) → 0 * q ≡ 0
    none q = omega arith
all_touch q (y ∷ ys) a =
    rw (pow-succ' (factorial q) (length ys), pow-add (suc q) y (total ys), longer (length ys) q, pow-add (suc q) q (length ys * q))
    (regroup (factorial q) (factorial q ^ length ys) (suc q ^ y) (suc q ^ total ys) (factorial y) (factorials ys) (suc q ^ q) (suc q ^ (length ys * q)) (touches q y a.0) (all_touch q ys a.1))
  where
    longer : (n q : ℕ) → suc n * q ≡ q + n * q
    longer n q = grind arith

    regroup : (f g p r x y s t : ℕ) → x * s ≤ f * p → y * t ≤ g * r → (x * y) * (s * t) ≤ (f * g) * (p * r)
    regroup f g p r x y s t h j = let one : (x * s) * (y * t) ≤ (f * p) * (g * r) = mul-le-mul h j in grind (arith, one)

power_least : (q n : ℕ) → 0 < suc q ^ n
power_least q zero = rw (pow-zero (suc q)) (omega arith)
power_least q (suc n) = rw (pow-succ' (suc q) n) (more (suc q) (suc q ^ n) (omega arith) (power_least q n))
  where
    more : (a b : ℕ) → 1 ≤ a → 0 < b → 0 < a * b
    more a b h j = let one = mul-le-mul {n₁ = 1} {m₁ = 1} h j in omega (arith, one)

pub cancel : (a b c : ℕ) → 0 < c → a * c ≤ b * c → a ≤ b
cancel a b c h j = le_of_mul-le-mul_left {k = c} (turned a b c j) h
  where
    turned : (a b c : ℕ) → a * c ≤ b * c → c * a ≤ c * b
    turned a b c j = grind (arith, j)

-- the most evenly_divided division has the least product
pub even-least : (q : ℕ) (xs ys : List ℕ) → IsEven q ys → length xs ≡ length ys → total xs ≡ total ys → factorials ys ≤ factorials xs
even-least q xs ys a e f =
    let one = all_touch q ys a in
    let two : factorial q ^ length ys * suc q ^ total ys ≤ factorials xs * suc q ^ (length ys * q) =
    subst (λ n. factorial q ^ n * suc q ^ total ys ≤ factorials xs * suc q ^ (n * q)) e (subst (λ t. factorial q ^ length xs * suc q ^ t ≤ factorials xs * suc q ^ (length xs * q)) f (tangents q xs)) in
    cancel (factorials ys) (factorials xs) (suc q ^ (length ys * q)) (power_least q (length ys * q)) (omega (arith, one, two))

-- a filling's weight by the factorials
binomial-factorials : (n a b : ℕ) → n ≡ a + b → binomial n a * (factorial a * factorial b) ≡ factorial n
unfolding binomial
binomial-factorials n zero b e = rw (same n b e) (ones (factorial b))
  where
    same : (n b : ℕ) → n ≡ zero + b → n ≡ b
    same n b e = omega (arith, e)

    ones : (f : ℕ) → 1 * (1 * f) ≡ f
    ones f = omega arith
binomial-factorials zero (suc a) b e = absurd (omega (arith, e))
binomial-factorials (suc n) (suc a) zero e =
    rw (binomial-over n (suc a) (omega (arith, e)), same n a e) (last (binomial a a) (factorial a) (binomial-factorials a a zero (omega arith)))
  where
    same : (n a : ℕ) → suc n ≡ suc a + zero → n ≡ a
    same n a e = omega (arith, e)

    last : (b f : ℕ) → b * (f * 1) ≡ f → (b + 0) * ((suc a * f) * 1) ≡ suc a * f
    last b f h = let one : (b + 0) * ((suc a * f) * 1) ≡ suc a * (b * (f * 1)) = grind arith in one ∙ ap (λ u. suc a * u) h
binomial-factorials (suc n) (suc a) (suc b) e =
    both n a b (binomial n a) (binomial n (suc a)) (factorial a) (factorial b) (factorial n) (binomial-factorials n a (suc b) (omega (arith, e))) (binomial-factorials n (suc a) b (omega (arith, e))) (omega (arith, e))
  where
    both : (n a b c d f g h : ℕ) → c * (f * (suc b * g)) ≡ h → d * ((suc a * f) * g) ≡ h → n ≡ suc (a + b) → (c + d) * ((suc a * f) * (suc b * g)) ≡ suc n * h
    both n a b c d f g h i j e =
        let one : (c + d) * ((suc a * f) * (suc b * g)) ≡ suc a * (c * (f * (suc b * g))) + suc b * (d * ((suc a * f) * g)) = grind arith in
        let more : suc (suc (a + b)) * h ≡ suc a * h + suc b * h = grind arith in
        let two : suc n * h ≡ suc a * h + suc b * h = ap (λ m. suc m * h) e ∙ more in
        one ∙ ap (λ u. suc a * u + suc b * (d * ((suc a * f) * g))) i ∙ ap (λ u. suc a * h + suc b * u) j ∙ sym two

pub weight-factorials : (xs : List ℕ) → number_of_labellings xs * factorials xs ≡ factorial (total xs)
weight-factorials [] = rw no_labellings refl
weight-factorials (x ∷ xs) = ap (λ n. n * (factorial x * factorials xs)) (labellings-first x xs) ∙ regroup (binomial (x + total xs) x) (number_of_labellings xs) (factorial x) (factorials xs) (factorial (total xs)) (factorial (x + total xs)) (weight-factorials xs) (binomial-factorials (x + total xs) x (total xs) refl)
  where
    regroup : (b w f g h t : ℕ) → w * g ≡ h → b * (f * h) ≡ t → (b * w) * (f * g) ≡ t
    regroup b w f g h t e k = let one : (b * w) * (f * g) ≡ b * (f * (w * g)) = grind arith in one ∙ ap (λ u. b * (f * u)) e ∙ k

pub weight-falls : (xs ys : List ℕ) → total xs ≡ total ys → factorials xs ≤ factorials ys → number_of_labellings ys ≤ number_of_labellings xs
weight-falls xs ys e h =
    let one : number_of_labellings ys * factorials xs ≤ number_of_labellings ys * factorials ys = mul-le-mul_left (number_of_labellings ys) h in
    let two : number_of_labellings ys * factorials ys ≡ number_of_labellings xs * factorials xs = weight-factorials ys ∙ ap factorial (sym e) ∙ sym (weight-factorials xs) in
    cancel (number_of_labellings ys) (number_of_labellings xs) (factorials xs) (factorials_least xs) (omega (arith, one, two))

-- the least and the greatest weight of a column's filling
pub total-filled_in_turn : (c : ℕ) (ms : List ℕ) → total (filled_in_turn c ms) ≡ min c (total ms)
total-filled_in_turn c [] = omega arith
total-filled_in_turn c (m ∷ ms) = omega (arith, total-filled_in_turn (c - min m c) ms)

pub within-total : (xs ms : List ℕ) → IsWithin xs ms → total xs ≤ total ms
within-total [] [] w = omega arith
within-total [] (m ∷ ms) w = absurd w
within-total (x ∷ xs) [] w = absurd w
within-total (x ∷ xs) (m ∷ ms) w = omega (arith, w.0, within-total xs ms w.1)

pub weight-least : (xs ms : List ℕ) → Falls ms → IsWithin xs ms → number_of_labellings (filled_in_turn (total xs) ms) ≤ number_of_labellings xs
weight-least xs ms f w = weight-falls xs (filled_in_turn (total xs) ms) (omega (arith, total-filled_in_turn (total xs) ms, within-total xs ms w)) (filled_in_turn-most xs ms f w)

total-replicate : (n k : ℕ) → total (replicate n k) ≡ n * k
total-replicate zero k = omega arith
total-replicate (suc n) k = let one : suc n * k ≡ k + n * k = grind arith in omega (arith, one, total-replicate n k)

total-append : (xs ys : List ℕ) → total (xs ++ ys) ≡ total xs + total ys
total-append [] ys = omega arith
total-append (x ∷ xs) ys = omega (arith, total-append xs ys)

all_replicate : (P : ℕ → Type 0) (n k : ℕ) → P k → (rest : List ℕ) → AllByRecursion P rest → AllByRecursion P (replicate n k ++ rest)
all_replicate P zero k h rest a = a
all_replicate P (suc n) k h rest a = (h, all_replicate P n k h rest a)

even-is_even : (c r : ℕ) → IsEven (c / r) (evenly_divided c r)
even-is_even c r = all_replicate (λ y. (y ≡ c / r) ⊎ (y ≡ suc (c / r))) (c % r) (c / r + 1) (inr (omega arith)) (replicate (r - c % r) (c / r))
    (subst (IsEven (c / r)) (append-nil (replicate (r - c % r) (c / r))) (all_replicate (λ y. (y ≡ c / r) ⊎ (y ≡ suc (c / r))) (r - c % r) (c / r) (inl refl) [] tt))

pub total-even : (c r : ℕ) → 0 < r → total (evenly_divided c r) ≡ c
total-even c r h =
    total-append (replicate (c % r) (c / r + 1)) (replicate (r - c % r) (c / r)) ∙ ap (λ n. n + total (replicate (r - c % r) (c / r))) (total-replicate (c % r) (c / r + 1)) ∙ ap (λ n. (c % r) * (c / r + 1) + n) (total-replicate (r - c % r) (c / r)) ∙
    divided (c % r) (c / r) r (r - c % r) c (parts (c % r) r (mod-lt c h)) (div-add-mod c r)
  where
    parts : (t r : ℕ) → t < r → t + (r - t) ≡ r
    parts t r h = omega (arith, h)

    divided : (t q r s c : ℕ) → t + s ≡ r → r * q + t ≡ c → t * (q + 1) + s * q ≡ c
    divided t q r s c e f = let one : t * (q + 1) + s * q ≡ (t + s) * q + t = grind arith in one ∙ ap (λ u. u * q + t) e ∙ f

pub length-even : (c r : ℕ) → 0 < r → length (evenly_divided c r) ≡ r
length-even c r h = let t = mod-lt c h in omega (arith, t, length-append (replicate (c % r) (c / r + 1)) (replicate (r - c % r) (c / r)), length-replicate (c % r) (c / r + 1), length-replicate (r - c % r) (c / r))

pub weight-most : (xs : List ℕ) → 0 < length xs → number_of_labellings xs ≤ number_of_labellings (evenly_divided (total xs) (length xs))
weight-most xs h = weight-falls (evenly_divided (total xs) (length xs)) xs (total-even (total xs) (length xs) h) (even-least (total xs / length xs) xs (evenly_divided (total xs) (length xs)) (even-is_even (total xs) (length xs)) (sym (length-even (total xs) (length xs) h)) (sym (total-even (total xs) (length xs) h)))
