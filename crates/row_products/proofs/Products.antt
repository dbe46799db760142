-- What one column takes of each row: the least and the greatest products of the factorials of the rows' cells, before and after it.
use Rattle.std.proofs.Common.{◌≡◌, ℕ, zero, suc, ◌+◌, ◌-◌, ◌*◌, ◌<◌, ◌≤◌, List, [], ◌∷◌, length, refl, ◌∙◌, ap, sym, subst, arith}
use Rattle.std.proofs.Math.Nat.{le_of_mul-le-mul_left, mul-le-mul}
use Rattle.weights.specs.Grouped.{minus}
use Rattle.weights.specs.InOrder.{put_in}
use Rattle.weights.specs.Labellings.{number_of_labellings}
use Rattle.weights.proofs.FirstLabel.{number_of_labellings-positive}
use Rattle.completion_bounds.specs.Fillings.{evenly_divided, falling, filled_in_turn, is_at_least, product_by}
use Rattle.completion_bounds.proofs.Factorials.{factorial as plain, factorials, filled_in_turn-most, IsWithin, length-even, total, total-even, total-filled_in_turn, weight-factorials, weight-most}
use Rattle.completion_bounds.proofs.FallingSizes.{Falls-falling, falling-twice, sorted, total-falling}
use Rattle.completion_bounds.proofs.TableWeights.{filled_in_turn-within}
use Rattle.row_products.specs.RowProducts.{factorial, greatest_product, least_product}

pub same-factorial : (n : ℕ) → factorial n ≡ plain n
same-factorial zero = refl
same-factorial (suc n) = ap (λ k. suc n * k) (same-factorial n)

pub same-factorials : (xs : List ℕ) → product_by factorial xs ≡ factorials xs
same-factorials [] = refl
same-factorials (x ∷ xs) = rw (same-factorial x, same-factorials xs) refl

-- the most even division has the least product
even-fewest : (xs : List ℕ) → 0 < length xs → factorials (evenly_divided (total xs) (length xs)) ≤ factorials xs
even-fewest xs h =
    let even = evenly_divided (total xs) (length xs) in
    let most : number_of_labellings xs ≤ number_of_labellings even = weight-most xs h in
    let whole : number_of_labellings even * factorials even ≡ number_of_labellings xs * factorials xs = weight-factorials even ∙ ap plain (total-even (total xs) (length xs) h) ∙ sym (weight-factorials xs) in
    let turned : number_of_labellings xs * factorials xs ≤ number_of_labellings even * factorials xs = mul-le-mul most (least (factorials xs)) in
    le_of_mul-le-mul_left {k = number_of_labellings even} (omega (arith, whole, turned)) (number_of_labellings-positive even)
  where
    least : (n : ℕ) → n ≤ n
    least n = omega arith

-- a row that is divided evenly over one column more
least-cell : (cs : List ℕ) (a r : ℕ) → a ≤ r → r - a ≤ total cs → least_product (suc (length cs)) r ≤ factorial a * least_product (length cs) (r - a)
least-cell [] a r h left =
    let whole : r ≡ a = omega (arith, h, left) in
    let none : a - a ≡ 0 = omega arith in
    rw (whole, none) (subst (λ n. n ≤ factorial a * 1) (sym (same-factorials (evenly_divided a 1))) (subst (λ n. factorials (evenly_divided a 1) ≤ n) (alone a) one))
  where
    one : factorials (evenly_divided a 1) ≤ factorials (a ∷ [])
    one = let bare : a + 0 ≡ a = omega arith in subst (λ t. factorials (evenly_divided t 1) ≤ factorials (a ∷ [])) bare (even-fewest (a ∷ []) (omega arith))

    alone : (a : ℕ) → factorials (a ∷ []) ≡ factorial a * 1
    alone a = ap (λ n. n * 1) (sym (same-factorial a))
least-cell (c ∷ cs) a r h left =
    let rest = evenly_divided (r - a) (suc (length cs)) in
    let long : length rest ≡ suc (length cs) = length-even (r - a) (suc (length cs)) (omega arith) in
    let whole : a + total rest ≡ r = omega (arith, h, total-even (r - a) (suc (length cs)) (omega arith)) in
    let one : factorials (evenly_divided (a + total rest) (suc (length rest))) ≤ factorial a * product_by factorial rest = rw (same-factorial a, same-factorials rest) (even-fewest (a ∷ rest) (omega arith)) in
    rw (same-factorials (evenly_divided r (suc (suc (length cs)))))
    (subst (λ n. factorials (evenly_divided r (suc n)) ≤ factorial a * product_by factorial rest) long
    (subst (λ t. factorials (evenly_divided t (suc (length rest))) ≤ factorial a * product_by factorial rest) whole one))

-- a row that fills the greatest columns of one more
greatest-cell : (c : ℕ) (cs : List ℕ) (a r : ℕ) → a ≤ c → a ≤ r → r - a ≤ total cs → factorial a * greatest_product cs (r - a) ≤ greatest_product (c ∷ cs) r
greatest-cell c cs a r inside h left =
    let ys = filled_in_turn (r - a) (falling cs) in
    let s = sorted (c ∷ falling cs) (a ∷ ys) (inside, filled_in_turn-within (r - a) (falling cs)) in
    let order : falling (c ∷ falling cs) ≡ falling (c ∷ cs) = ap (put_in is_at_least c) (falling-twice cs) in
    let whole : total s.cells ≡ r = omega (arith, s.sum, total-filled_in_turn (r - a) (falling cs), total-falling cs, left, h) in
    let most : factorials s.cells ≤ factorials (filled_in_turn (total s.cells) (falling (c ∷ falling cs))) = filled_in_turn-most s.cells (falling (c ∷ falling cs)) (Falls-falling (c ∷ falling cs)) s.within in
    let here : factorials (a ∷ ys) ≤ factorials (filled_in_turn r (falling (c ∷ cs))) =
    subst (λ n. n ≤ factorials (filled_in_turn r (falling (c ∷ cs)))) s.product
    (subst (λ t. factorials s.cells ≤ factorials (filled_in_turn t (falling (c ∷ cs)))) whole
    (subst (λ ks. factorials s.cells ≤ factorials (filled_in_turn (total s.cells) ks)) order most)) in
    rw (same-factorial a, same-factorials ys, same-factorials (filled_in_turn r (falling (c ∷ cs)))) here

-- and so for all rows
pub least-rows : (cs r x : List ℕ) → IsWithin x r → total (minus r x) ≤ total cs → product_by (least_product (suc (length cs))) r ≤ factorials x * product_by (least_product (length cs)) (minus r x)
least-rows cs [] [] w left = omega arith
least-rows cs [] (a ∷ x) w left = absurd w
least-rows cs (m ∷ r) [] w left = absurd w
least-rows cs (m ∷ r) (a ∷ x) w left =
    let here : least_product (suc (length cs)) m ≤ plain a * least_product (length cs) (m - a) = rw (← same-factorial a) (least-cell cs a m w.0 (omega (arith, left))) in
    let rest = least-rows cs r x w.1 (omega (arith, left)) in
    let both : least_product (suc (length cs)) m * product_by (least_product (suc (length cs))) r ≤ (plain a * least_product (length cs) (m - a)) * (factorials x * product_by (least_product (length cs)) (minus r x)) = mul-le-mul here rest in
    omega (arith, both, regroup (plain a) (least_product (length cs) (m - a)) (factorials x) (product_by (least_product (length cs)) (minus r x)))
  where
    regroup : (a b c d : ℕ) → (a * b) * (c * d) ≡ (a * c) * (b * d)
    regroup a b c d = grind arith

pub greatest-rows : (c : ℕ) (cs r x : List ℕ) → IsWithin x r → total x ≤ c → total (minus r x) ≤ total cs → factorials x * product_by (greatest_product cs) (minus r x) ≤ product_by (greatest_product (c ∷ cs)) r
greatest-rows c cs [] [] w taken left = omega arith
greatest-rows c cs [] (a ∷ x) w taken left = absurd w
greatest-rows c cs (m ∷ r) [] w taken left = absurd w
greatest-rows c cs (m ∷ r) (a ∷ x) w taken left =
    let here : plain a * greatest_product cs (m - a) ≤ greatest_product (c ∷ cs) m = rw (← same-factorial a) (greatest-cell c cs a m (omega (arith, taken)) w.0 (omega (arith, left))) in
    let rest = greatest-rows c cs r x w.1 (omega (arith, taken)) (omega (arith, left)) in
    let both : (plain a * greatest_product cs (m - a)) * (factorials x * product_by (greatest_product cs) (minus r x)) ≤ greatest_product (c ∷ cs) m * product_by (greatest_product (c ∷ cs)) r = mul-le-mul here rest in
    omega (arith, both, regroup (plain a) (greatest_product cs (m - a)) (factorials x) (product_by (greatest_product cs) (minus r x)))
  where
    regroup : (a b c d : ℕ) → (a * b) * (c * d) ≡ (a * c) * (b * d)
    regroup a b c d = grind arith
