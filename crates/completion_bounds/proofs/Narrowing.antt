-- What the bounds do as a rearrangement is completed: neither lets go of what it held, and at the end both are the value.
use Rattle.std.proofs.Common.{◌≡◌, ℕ, ◌+◌, ◌*◌, ◌<◌, ◌≤◌, min, List, [], ◌∷◌, length, refl, subst, arith}
use Rattle.std.specs.Prelude.{ℤ, ◌≤ℤ◌, unsigned_abs}
use Rattle.std.specs.List.{sum}
use Rattle.std.proofs.Math.Nat.{mul-le-mul_left, mul-le-mul_right, mul-le-mul}
use Rattle.std.proofs.lemmas.Int.{ints}
use Rattle.weights.specs.Grouped.{minus}
use Rattle.weights.specs.Labellings.{number_of_labellings}
use Rattle.weights.proofs.ChoiceLists.{IsChoice}
use Rattle.completion_bounds.specs.Boxes.{factored_squares, least_size, greatest_size, least_squares, greatest_squares}
use Rattle.completion_bounds.specs.Fillings.{falling, filled_in_turn, least_weight, greatest_weight, product_by}
use Rattle.completion_bounds.proofs.Factorials.{total, total-is, IsWithin, weight-least, weight-most, total-filled_in_turn}
use Rattle.completion_bounds.proofs.FallingSizes.{Falls-falling, total-falling, within-falling}
use Rattle.completion_bounds.proofs.TableWeights.{within, filled, within-trans, within-length, left-within, left-total, least_weight-le, filled_in_turn-within, labellings-parts}

-- each range lies in the one beside it
abbrev pub IsNarrower : List ℤ → List ℤ → List ℤ → List ℤ → Type 0
IsNarrower [] [] [] [] = Unit {0}
IsNarrower (low ∷ lows) (high ∷ highs) (l ∷ ls) (h ∷ hs) = (low ≤ℤ l) × (l ≤ℤ h) × (h ≤ℤ high) × IsNarrower lows highs ls hs
IsNarrower lows highs ls hs = ⊥

size-rises : (l h m k : ℤ) → l ≤ℤ m → m ≤ℤ k → k ≤ℤ h → least_size l h ≤ least_size m k
size-rises l h m k a b c = grind (arith, ints)

size-falls : (l h m k : ℤ) → l ≤ℤ m → m ≤ℤ k → k ≤ℤ h → greatest_size m k ≤ greatest_size l h
size-falls l h m k a b c = grind (arith, ints)

pub least_squares-rises : (lows highs ls hs : List ℤ) (factors : List ℕ) → IsNarrower lows highs ls hs → least_squares lows highs factors ≤ least_squares ls hs factors
least_squares-rises [] [] [] [] factors n = omega arith
least_squares-rises [] [] [] (h ∷ hs) factors n = absurd n
least_squares-rises [] [] (l ∷ ls) hs factors n = absurd n
least_squares-rises [] (high ∷ highs) ls hs factors n = absurd n
least_squares-rises (low ∷ lows) [] ls hs factors n = absurd n
least_squares-rises (low ∷ lows) (high ∷ highs) [] hs factors n = absurd n
least_squares-rises (low ∷ lows) (high ∷ highs) (l ∷ ls) [] factors n = absurd n
least_squares-rises (low ∷ lows) (high ∷ highs) (l ∷ ls) (h ∷ hs) [] n = omega arith
least_squares-rises (low ∷ lows) (high ∷ highs) (l ∷ ls) (h ∷ hs) (factor ∷ factors) n =
    let size = size-rises low high l h n.0 n.1 n.2 in
    omega (arith, mul-le-mul_left factor (mul-le-mul size size), least_squares-rises lows highs ls hs factors n.3)

pub greatest_squares-falls : (lows highs ls hs : List ℤ) (factors : List ℕ) → IsNarrower lows highs ls hs → greatest_squares ls hs factors ≤ greatest_squares lows highs factors
greatest_squares-falls [] [] [] [] factors n = omega arith
greatest_squares-falls [] [] [] (h ∷ hs) factors n = absurd n
greatest_squares-falls [] [] (l ∷ ls) hs factors n = absurd n
greatest_squares-falls [] (high ∷ highs) ls hs factors n = absurd n
greatest_squares-falls (low ∷ lows) [] ls hs factors n = absurd n
greatest_squares-falls (low ∷ lows) (high ∷ highs) [] hs factors n = absurd n
greatest_squares-falls (low ∷ lows) (high ∷ highs) (l ∷ ls) [] factors n = absurd n
greatest_squares-falls (low ∷ lows) (high ∷ highs) (l ∷ ls) (h ∷ hs) [] n = omega arith
greatest_squares-falls (low ∷ lows) (high ∷ highs) (l ∷ ls) (h ∷ hs) (factor ∷ factors) n =
    let size = size-falls low high l h n.0 n.1 n.2 in
    omega (arith, mul-le-mul_left factor (mul-le-mul size size), greatest_squares-falls lows highs ls hs factors n.3)

-- a box that is one point
least_size-point : (p : ℤ) → least_size p p ≡ unsigned_abs p
least_size-point p = grind (arith, ints)

greatest_size-point : (p : ℤ) → greatest_size p p ≡ unsigned_abs p
greatest_size-point p = grind (arith, ints)

pub least_squares-point : (point : List ℤ) (factors : List ℕ) → least_squares point point factors ≡ factored_squares point factors
least_squares-point [] factors = refl
least_squares-point (p ∷ point) [] = refl
least_squares-point (p ∷ point) (factor ∷ factors) = rw (least_size-point p, least_squares-point point factors) refl

pub greatest_squares-point : (point : List ℤ) (factors : List ℕ) → greatest_squares point point factors ≡ factored_squares point factors
greatest_squares-point [] factors = refl
greatest_squares-point (p ∷ point) [] = refl
greatest_squares-point (p ∷ point) (factor ∷ factors) = rw (greatest_size-point p, greatest_squares-point point factors) refl

-- smaller rows give a column no less weight
least_weight-rises : (c : ℕ) (ms ns : List ℕ) → IsWithin ms ns → c ≤ total ms → least_weight ns c ≤ least_weight ms c
least_weight-rises c ms ns w h =
    let cells = filled_in_turn c (falling ms) in
    let whole : total cells ≡ c = omega (arith, h, total-filled_in_turn c (falling ms), total-falling ms) in
    subst (λ n. least_weight ns n ≤ number_of_labellings cells) whole
    (weight-least cells (falling ns) (Falls-falling ns) (within-trans cells (falling ms) (falling ns) (filled_in_turn-within c (falling ms)) (within-falling ms ns w)))

products-rise : (cs ms ns : List ℕ) → IsWithin ms ns → total cs ≤ total ms → product_by (least_weight ns) cs ≤ product_by (least_weight ms) cs
products-rise [] ms ns w h = omega arith
products-rise (c ∷ cs) ms ns w h = mul-le-mul (least_weight-rises c ms ns w (omega (arith, h))) (products-rise cs ms ns w (omega (arith, h)))

-- one column chosen: the weight that it adds and the least of the later columns are no less than the least before
pub least-step : (c : ℕ) (cs ms xs : List ℕ) → IsChoice c ms xs → c + sum cs ≤ sum ms → product_by (least_weight ms) (c ∷ cs) ≤ number_of_labellings xs * product_by (least_weight (minus ms xs)) cs
least-step c cs ms xs o h =
    let inside = within c ms xs o in
    let first : least_weight ms c ≤ number_of_labellings xs = subst (λ n. least_weight ms n ≤ number_of_labellings xs) (filled c ms xs o) (least_weight-le ms xs inside) in
    mul-le-mul first (products-rise cs (minus ms xs) ms (left-within ms xs inside) (omega (arith, h, total-is cs, total-is ms, filled c ms xs o, left-total ms xs inside)))

-- and no more than the greatest before
pub greatest-step : (c : ℕ) (cs ms xs : List ℕ) → IsChoice c ms xs → 0 < length ms →
    number_of_labellings xs * min (number_of_labellings (minus ms xs)) (product_by (greatest_weight (length ms)) cs) ≤ min (number_of_labellings ms) (product_by (greatest_weight (length ms)) (c ∷ cs))
greatest-step c cs ms xs o h =
    let inside = within c ms xs o in
    let wide : length xs ≡ length ms = within-length xs ms inside in
    let most : number_of_labellings xs ≤ greatest_weight (length ms) (total xs) = subst (λ n. number_of_labellings xs ≤ greatest_weight n (total xs)) wide (weight-most xs (omega (arith, wide, h))) in
    let here : number_of_labellings xs ≤ greatest_weight (length ms) c = subst (λ n. number_of_labellings xs ≤ greatest_weight (length ms) n) (filled c ms xs o) most in
    both (number_of_labellings xs) (number_of_labellings (minus ms xs)) (product_by (greatest_weight (length ms)) cs) (number_of_labellings ms) (product_by (greatest_weight (length ms)) (c ∷ cs)) (labellings-parts ms xs inside) (mul-le-mul_right (product_by (greatest_weight (length ms)) cs) here)
  where
    both : (x a b u v : ℕ) → x * a ≤ u → x * b ≤ v → x * min a b ≤ min u v
    both x a b u v i j =
        let one : x * min a b ≤ x * a = mul-le-mul_left x (omega arith) in
        let two : x * min a b ≤ x * b = mul-le-mul_left x (omega arith) in
        omega (arith, one, two, i, j)
