-- The factored squares of sums and of what is seen of them from a middle differ by one number, where the sums come to the sum of all scores.
use Rattle.std.proofs.Common.{◌≡◌, ℕ, zero, suc, ◌+◌, ◌-◌, ◌*◌, ◌/◌, ◌≤◌, List, [], ◌∷◌, length, sym, ◌∙◌, ap, subst, arith, inl, inr, div-mul-le_self}
use Rattle.std.specs.Prelude.{ℤ, pos, nat_abs, ◌+ℤ◌, ◌-ℤ◌, ◌*ℤ◌, unsigned_abs}
use Rattle.std.specs.List.{sum}
use Rattle.std.proofs.Math.Nat.{div-le_self, mul-le-mul_left, mul-le-mul_right}
use Rattle.std.proofs.lemmas.Bool.{cases_lt}
use Rattle.std.proofs.lemmas.Int.{ints}
use Rattle.std.proofs.lemmas.List.Elements.{All-from_recursion}
use Rattle.std.proofs.lemmas.List.Sums.{sum_by-cons}
use Rattle.completion_bounds.specs.Boxes.{factored_squares}
use Rattle.later_scores.specs.LaterSums.{subjects}
use Rattle.weights.specs.Numbers.{absolute_sum}
use Rattle.weights.specs.declared.TheConstants.{MAX}
use Rattle.kruskal_wallis.specs.CentredSums.{AreParts, IsCentred, from_middle, middle_squares}
use Rattle.symmetry_reduction.specs.GroupSums.{AreHeld}
use Rattle.networks.specs.PartialSums.{plus}

pub taken-is : (n m : ℕ) → pos n *ℤ (pos 0 -ℤ pos m) ≡ pos 0 -ℤ pos (n * m)
taken-is n m = grind (arith, ints)

-- the square of a distance
distance-square : (a b : ℕ) → unsigned_abs (pos a -ℤ pos b) * unsigned_abs (pos a -ℤ pos b) + 2 * (a * b) ≡ a * a + b * b
distance-square a b = elim (cases_lt a b) [
  | inl l ↦
      (let whole : b ≡ a + (b - a) = omega (arith, l) in
      let away : unsigned_abs (pos a -ℤ pos b) ≡ b - a = omega (arith, ints, l) in
      ap (λ n. n * n + 2 * (a * b)) away ∙ ap (λ n. (b - a) * (b - a) + 2 * (a * n)) whole ∙ up a (b - a) ∙ ap (λ n. a * a + n * n) (sym whole))
  | inr m ↦
      (let whole : a ≡ b + (a - b) = omega (arith, m) in
      let away : unsigned_abs (pos a -ℤ pos b) ≡ a - b = omega (arith, ints, m) in
      ap (λ n. n * n + 2 * (a * b)) away ∙ ap (λ n. (a - b) * (a - b) + 2 * (n * b)) whole ∙ down b (a - b) ∙ ap (λ n. n * n + b * b) (sym whole))
]
  where
    up : (a d : ℕ) → d * d + 2 * (a * (a + d)) ≡ a * a + (a + d) * (a + d)
    up a d = grind arith

    down : (b d : ℕ) → d * d + 2 * ((b + d) * b) ≡ (b + d) * (b + d) + b * b
    down b d = grind arith

one-place : (f n m : ℕ) (z : ℤ) → z ≡ pos (nat_abs z) → f * (unsigned_abs (z +ℤ (pos n *ℤ (pos 0 -ℤ pos m))) * unsigned_abs (z +ℤ (pos n *ℤ (pos 0 -ℤ pos m)))) + 2 * (f * n * (m * unsigned_abs z))
    ≡ f * (unsigned_abs z * unsigned_abs z) + f * n * (m * (m * n))
one-place f n m z held =
    let a : ℕ = nat_abs z in
    let size : unsigned_abs z ≡ a = omega (arith, ints, held) in
    let seen : z +ℤ (pos n *ℤ (pos 0 -ℤ pos m)) ≡ pos a -ℤ pos (n * m) = omega (arith, ints, held, taken-is n m) in
    rw (seen, size) (join f n m a (unsigned_abs (pos a -ℤ pos (n * m))) (distance-square a (n * m)))
  where
    join : (f n m a d : ℕ) → d * d + 2 * (a * (n * m)) ≡ a * a + n * m * (n * m) → f * (d * d) + 2 * (f * n * (m * a)) ≡ f * (a * a) + f * n * (m * (m * n))
    join f n m a d e = left f n m a d ∙ ap (λ v. f * v) e ∙ right f n m a
      where
        left : (f n m a d : ℕ) → f * (d * d) + 2 * (f * n * (m * a)) ≡ f * (d * d + 2 * (a * (n * m)))
        left f n m a d = grind arith

        right : (f n m a : ℕ) → f * (a * a + n * m * (n * m)) ≡ f * (a * a) + f * n * (m * (m * n))
        right f n m a = grind arith

squares-seen : (l m : ℕ) (p : List ℤ) (factors rows : List ℕ) → AreParts l factors rows → AreHeld p → length p ≡ length rows
    → factored_squares (plus p (from_middle m rows)) factors + 2 * (l * (m * absolute_sum p)) ≡ factored_squares p factors + l * (m * (m * sum rows))
squares-seen l m [] [] [] parts held e = grind arith
squares-seen l m [] [] (n ∷ rows) parts held e = absurd parts
squares-seen l m [] (f ∷ factors) [] parts held e = absurd parts
squares-seen l m [] (f ∷ factors) (n ∷ rows) parts held e = absurd (omega (arith, e))
squares-seen l m (z ∷ p) [] [] parts held e = absurd (omega (arith, e))
squares-seen l m (z ∷ p) [] (n ∷ rows) parts held e = absurd parts
squares-seen l m (z ∷ p) (f ∷ factors) [] parts held e = absurd parts
squares-seen l m (z ∷ p) (f ∷ factors) (n ∷ rows) parts held e =
    let here = one-place f n m z held.0 in
    let rest = squares-seen l m p factors rows parts.1 held.1 (omega (arith, e)) in
    let all : sum (n ∷ rows) ≡ n + sum rows = sum_by-cons (λ v. v) n rows in
    let one = rw parts.0 at here in
    omega (arith, one, rest, ap (λ v. l * (m * (m * v))) all ∙ more l m n (sum rows), twice l m (unsigned_abs z) (absolute_sum p))
  where
    more : (l m n s : ℕ) → l * (m * (m * (n + s))) ≡ l * (m * (m * n)) + l * (m * (m * s))
    more l m n s = grind arith

    twice : (l m a s : ℕ) → 2 * (l * (m * (a + s))) ≡ 2 * (l * (m * a)) + 2 * (l * (m * s))
    twice l m a s = grind arith

-- and so the sums' own squares are those of what is seen with what all have alike
pub seen-value : (l m all : ℕ) (p : List ℤ) (factors rows : List ℕ) → AreParts l factors rows → AreHeld p → length p ≡ length rows → absolute_sum p ≡ all → m * sum rows ≤ all
    → middle_squares l m all (sum rows) + factored_squares (plus p (from_middle m rows)) factors ≡ factored_squares p factors
seen-value l m all p factors rows parts held e whole below =
    let left : ℕ = 2 * all - m * sum rows in
    let twice : 2 * all ≡ m * sum rows + left = omega (arith, below) in
    let seen = squares-seen l m p factors rows parts held e in
    let apart : 2 * (l * (m * absolute_sum p)) ≡ l * (m * (m * sum rows)) + l * (m * left) = ap (λ v. 2 * (l * (m * v))) whole ∙ turn l m all ∙ ap (λ v. l * (m * v)) twice ∙ split l m (m * sum rows) left in
    omega (arith, seen, apart)
  where
    turn : (l m a : ℕ) → 2 * (l * (m * a)) ≡ l * (m * (2 * a))
    turn l m a = grind arith

    split : (l m a b : ℕ) → l * (m * (a + b)) ≡ l * (m * a) + l * (m * b)
    split l m a b = grind arith

-- it is no more than the greatest square that all together have
pub middle-part : (m all n : ℕ) → 1 ≤ n → m * n ≤ all → m * (2 * all - m * n) ≤ all * all
middle-part m all n some below =
    let whole : all ≡ m * n + (all - m * n) = omega (arith, below) in
    let near : 2 * all - m * n ≡ m * n + 2 * (all - m * n) = omega (arith, below) in
    let less : m ≤ m * n = grind (arith, some) in
    subst (λ v. m * v ≤ all * all) (sym near)
    (subst (λ v. m * (m * n + 2 * (all - m * n)) ≤ v * v) (sym whole)
    (square m (m * n) (all - m * n) less))
  where
    square : (m a d : ℕ) → m ≤ a → m * (a + 2 * d) ≤ (a + d) * (a + d)
    square m a d h =
        let one : m * (a + 2 * d) ≤ a * (a + 2 * d) = mul-le-mul_right (a + 2 * d) h in
        let other : a * (a + 2 * d) + d * d ≡ (a + d) * (a + d) = grind arith in
        omega (arith, one, other)

pub middle-within : (l m all n : ℕ) → 1 ≤ n → m * n ≤ all → middle_squares l m all n ≤ l * (all * all)
middle-within l m all n some below = mul-le-mul_left l (middle-part m all n some below)

-- a number whose square passes no limit is less than half of it
double-within : (a : ℕ) → a * a ≤ MAX → 2 * a ≤ MAX
double-within zero h = omega arith
double-within (suc zero) h = omega arith
double-within (suc (suc a)) h =
    let twice : 2 * suc (suc a) ≤ suc (suc a) * suc (suc a) = grind arith in
    omega (arith, h, twice)

-- so the sums may be seen from their mean, or what is below it
pub centred : (l all n bound : ℕ) (factors : List ℕ) (scores : List ℤ) (columns rows : List ℕ) → 1 ≤ l → 1 ≤ n → n ≡ sum rows → all ≡ absolute_sum (subjects scores columns) → AreParts l factors rows → AreHeld scores → l * (all * all) ≤ bound → bound ≤ MAX
    → IsCentred factors bound (middle_squares l (all / n) all n) (all / n) scores columns rows
centred l all n bound factors scores columns rows some any count whole parts held fits wide =
    let middle : ℕ = all / n in
    let below : middle * n ≤ all = div-mul-le_self all n in
    let square : 1 * (all * all) ≤ l * (all * all) = mul-le-mul_right (all * all) some in
    record {
      held = All-from_recursion _ scores held;
      below = subst (λ k. middle * k ≤ absolute_sum (subjects scores columns)) count (subst (λ a. middle * n ≤ a) whole below);
      value = λ p h e w.
          subst (λ k. middle_squares l middle all k + factored_squares (plus p (from_middle middle rows)) factors ≡ factored_squares p factors) (sym count)
          (seen-value l middle all p factors rows parts h e (w ∙ sym whole) (subst (λ k. middle * k ≤ all) count below));
      base_fits = omega (arith, middle-within l middle all n any below, fits);
      middle_fits = subst (λ a. middle ≤ a) whole (div-le_self all n);
      small = subst (λ a. 2 * a ≤ MAX) whole (double-within all (omega (arith, square, fits, wide)));
    }
