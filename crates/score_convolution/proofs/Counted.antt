-- How many draws there are, and that what is asked of them is no more.
use Rattle.std.proofs.Common.{◌≡◌, ℕ, zero, suc, ◌+◌, ◌-◌, ◌*◌, ◌≤◌, List, [], ◌∷◌, length, Bool, true, false, cond, nat_eq, sym, ◌∙◌, ap, arith}
use Rattle.std.specs.Prelude.{ℤ, ◌+ℤ◌}
use Rattle.std.proofs.Math.Nat.{le_of_mul-le-mul_left, mul-le-mul_right}
use Rattle.weights.specs.Numbers.{binomial}
use Rattle.weights.proofs.Binomials.{binomial-marked, binomial-over, binomial-pascal, binomial-zero}
use Rattle.score_convolution.specs.Sides.{once}
use Rattle.score_convolution.specs.Draws.{draw_sum}
use Rattle.score_convolution.specs.Meetings.{drawn_at}
use Rattle.score_convolution.proofs.DrawSums.{draw-none}
use Rattle.score_convolution.proofs.DrawnLabels.{elsewhere}

-- ---- binomials

-- of one more
one-longer : (n k : ℕ) → binomial n k ≤ binomial (suc n) k
one-longer n zero = omega (arith, binomial-zero n, binomial-zero (suc n))
one-longer n (suc k) = omega (arith, binomial-pascal n k)

longer-by : (p d k : ℕ) → binomial p k ≤ binomial (p + d) k
longer-by p zero k =
    let e : p + 0 ≡ p = omega arith in
    omega (arith, ap (λ m. binomial m k) e)
longer-by p (suc d) k =
    let e : p + suc d ≡ suc (p + d) = omega arith in
    omega (arith, longer-by p d k, one-longer (p + d) k, ap (λ m. binomial m k) e)

pub binomial-longer : (p n k : ℕ) → p ≤ n → binomial p k ≤ binomial n k
binomial-longer p n k h =
    let e : p + (n - p) ≡ n = omega (arith, h) in
    omega (arith, longer-by p (n - p) k, ap (λ m. binomial m k) e)

-- no fewer are left out than one more than are chosen
first-half : (n k a b : ℕ) → 2 * k + 1 ≤ n → suc k * (a + b) ≡ suc n * a → a ≤ b
first-half n k a b h e =
    let spread : suc k * (a + b) ≡ suc k * a + suc k * b = grind arith in
    let twice : (suc k + suc k) * a ≡ suc k * a + suc k * a = grind arith in
    let fewer : (suc k + suc k) * a ≤ suc n * a = mul-le-mul_right a (omega (arith, h)) in
    le_of_mul-le-mul_left {m = a} {n = b} {k = suc k} (omega (arith, e, spread, twice, fewer)) (omega arith)

one-more : (n k : ℕ) → 2 * k + 1 ≤ n → binomial n k ≤ binomial n (suc k)
one-more n k h = first-half n k (binomial n k) (binomial n (suc k)) h (ap (λ m. suc k * m) (sym (binomial-pascal n k)) ∙ binomial-marked n k)

more-by : (n k e : ℕ) → 2 * (k + e) ≤ n → binomial n k ≤ binomial n (k + e)
more-by n k zero h =
    let same : k + 0 ≡ k = omega arith in
    omega (arith, ap (binomial n) same)
more-by n k (suc e) h =
    let same : k + suc e ≡ suc (k + e) = omega arith in
    omega (arith, more-by n k e (omega (arith, h)), one-more n (k + e) (omega (arith, h)), ap (binomial n) same)

-- up to the middle the ways rise
pub binomial-rises : (n d k : ℕ) → 2 * d ≤ n → k ≤ d → binomial n k ≤ binomial n d
binomial-rises n d k h l =
    let same : k + (d - k) ≡ d = omega (arith, l) in
    omega (arith, more-by n k (d - k) (omega (arith, same, h)), ap (binomial n) same)

-- so many of some and so many of others are so many of all
pub binomial-parts : (p q n m : ℕ) → binomial p n * binomial q m ≤ binomial (p + q) (n + m)
binomial-parts zero q zero m =
    let all : 0 + q ≡ q = omega arith in
    let none : 0 + m ≡ m = omega arith in
    rw (binomial-zero 0, all, none) (omega arith)
binomial-parts zero q (suc n) m = rw (binomial-over 0 (suc n) (omega arith)) (omega arith)
binomial-parts (suc p) q zero m =
    let none : 0 + m ≡ m = omega arith in
    rw (binomial-zero (suc p), none) (omega (arith, longer-by q (suc p) m, ap (λ k. binomial k m) turned))
  where
    turned : q + suc p ≡ suc p + q
    turned = omega arith
binomial-parts (suc p) q (suc n) m =
    let spread : (binomial p n + binomial p (suc n)) * binomial q m ≡ binomial p n * binomial q m + binomial p (suc n) * binomial q m = grind arith in
    let one : suc n + m ≡ suc (n + m) = omega arith in
    let all : suc p + q ≡ suc (p + q) = omega arith in
    let without : binomial p (suc n) * binomial q m ≤ binomial (p + q) (suc (n + m)) = rw one at (binomial-parts p q (suc n) m) in
    rw (binomial-pascal p n, spread, all, one, binomial-pascal (p + q) (n + m)) (omega (arith, binomial-parts p q n m, without))

-- ---- draws

pub once-few : (p : ℤ → Bool) (v : ℤ) → once p v ≤ 1
once-few p v = by (p v)
  where
    by : (b : Bool) → cond b 1 0 ≤ 1
    by true = omega arith
    by false = omega arith

at-few : (p : ℤ → Bool) (d n : ℕ) (v : ℤ) → drawn_at p d n v ≤ 1
at-few p d n v = by (nat_eq n d)
  where
    by : (b : Bool) → cond b (once p v) 0 ≤ 1
    by true = once-few p v
    by false = omega arith

module _ (p : ℤ → Bool) where
  -- n are drawn, and e more of these
  drawn-few : (n e : ℕ) (v : ℤ) (scores : List ℤ) → draw_sum (drawn_at p (n + e)) n v scores ≤ binomial (length scores) e
  drawn-few n zero v [] = omega (arith, at-few p (n + 0) n v, binomial-zero 0)
  drawn-few n (suc e) v [] = omega (arith, elsewhere (once p) (n + suc e) n v (λ same. omega (arith, same)))
  drawn-few n zero v (s ∷ scores) =
      let none = draw-none (drawn_at p (n + 0)) (n + 1) (v +ℤ s) scores (λ m u h k. elsewhere (once p) (n + 0) m u (λ same. omega (arith, same, h))) in
      omega (arith, none, drawn-few n zero v scores, binomial-zero (length scores), binomial-zero (suc (length scores)))
  drawn-few n (suc e) v (s ∷ scores) =
      let on : (n + 1) + e ≡ n + suc e = omega arith in
      omega (
        arith,
        drawn-few n (suc e) v scores,
        drawn-few (n + 1) e (v +ℤ s) scores,
        ap (λ d. draw_sum (drawn_at p d) (n + 1) (v +ℤ s) scores) on,
        binomial-pascal (length scores) e,
      )

  pub drawn-within : (drawn : ℕ) (v : ℤ) (scores : List ℤ) → draw_sum (drawn_at p drawn) 0 v scores ≤ binomial (length scores) drawn
  drawn-within drawn v scores =
      let all : 0 + drawn ≡ drawn = omega arith in
      omega (arith, drawn-few 0 drawn v scores, ap (λ d. draw_sum (drawn_at p d) 0 v scores) all)
