-- Weights of a table and of the table transposed, by the factorials of their cells: in the ratio of the
-- numbers of labellings.
use Rattle.std.proofs.Common.{◌≡◌, ℕ, ◌*◌, ◌<◌, ◌≤◌, List, [], ◌∷◌, length, map, inl, inr, refl, sym, ◌∙◌, ap, arith}
use Rattle.std.specs.Prelude.{nat_le}
use Rattle.std.specs.List.{sum}
use Rattle.std.proofs.Math.Nat.{mul-le-mul, mul-le-mul_right}
use Rattle.std.proofs.lemmas.Bool.Decides.{leb_tells}
use Rattle.weights.specs.Grouped.{table_weight, tables}
use Rattle.weights.specs.Labellings.{number_of_labellings}
use Rattle.weights.proofs.FirstLabel.{number_of_labellings-positive}
use Rattle.weights.proofs.GroupingLaw.{by_columns}
use Rattle.weights.proofs.Sums.{sum_by-same_where, sum_by-times}
use Rattle.weights.proofs.Tables.{IsTable, tables-each}
use Rattle.completion_bounds.proofs.Factorials.{factorial, factorial_least, factorials, total, weight-factorials, cancel as cancel-≤}
use Rattle.transposed_tables.specs.Transposed.{transposed}
use Rattle.transposed_tables.specs.TransposedLaws.{AreWeights, ComparesTransposed}
use Rattle.transposed_tables.proofs.Bijection.{sums, transposing}
use Rattle.transposed_tables.proofs.Shapes.{level-totals, transposed-sums}
use Rattle.transposed_tables.proofs.TransposedLines.{cell_factorials, cells-transposed}

-- products above zero, compared and cancelled

pub cancel : (a b k : ℕ) → 0 < k → a * k ≡ b * k → a ≡ b
cancel a b k some e = omega (arith, cancel-≤ a b k some (omega (arith, e)), cancel-≤ b a k some (omega (arith, e)))

some-times : (a b : ℕ) → 0 < a → 0 < b → 0 < a * b
some-times a b h j = let one = mul-le-mul {n₁ = 1} {m₁ = 1} {n₂ = a} {m₂ = b} h j in omega (arith, one)

factorials-some : (xs : List ℕ) → 0 < factorials xs
factorials-some [] = omega arith
factorials-some (x ∷ xs) = some-times (factorial x) (factorials xs) (factorial_least x) (factorials-some xs)

-- what is as two numbers are, in the same ratio, is compared as they are
pub compared : (a b c d p q : ℕ) → 0 < p → 0 < q → a * p ≡ c * q → b * p ≡ d * q → nat_le a b ≡ nat_le c d
compared a b c d p q some other e f = elim (leb_tells a b) [
  | inl l ↦ elim (leb_tells c d) [
    | inl k ↦ l.0 ∙ sym k.0
    | inr k ↦ absurd (omega (arith, k.1, cancel-≤ c d q other (omega (arith, mul-le-mul_right p l.1, e, f))))
  ]
  | inr l ↦ elim (leb_tells c d) [
    | inl k ↦ absurd (omega (arith, l.1, cancel-≤ a b p some (omega (arith, mul-le-mul_right q k.1, e, f))))
    | inr k ↦ l.0 ∙ sym k.0
  ]
]

-- the weight of a table times its cells' factorials
weight-cells : (w : List (List ℕ)) → table_weight w * cell_factorials w ≡ factorials (map total w)
weight-cells [] = refl
weight-cells (x ∷ w) = regroup (number_of_labellings x) (table_weight w) (factorials x) (cell_factorials w) (factorial (total x)) (factorials (map total w)) (weight-factorials x) (weight-cells w)
  where
    regroup : (n t f c p q : ℕ) → n * f ≡ p → t * c ≡ q → (n * t) * (f * c) ≡ p * q
    regroup n t f c p q e h = rw (← e, ← h) (grind arith)

-- one product by two ways
crossed : (a b c p q : ℕ) → a * c ≡ p → b * c ≡ q → a * q ≡ b * p
crossed a b c p q e f = rw (← e, ← f) (grind arith)

by-factorials : (columns rows : List ℕ) (w : List (List ℕ)) → sum columns ≡ sum rows → IsTable columns rows w → table_weight w * factorials rows ≡ table_weight (transposed (length rows) w) * factorials columns
by-factorials columns rows w level t =
    let s = sums columns rows level w t in
    let back = transposed-sums columns rows w s in
    crossed (table_weight w) (table_weight (transposed (length rows) w)) (cell_factorials w) (factorials columns) (factorials rows)
    (weight-cells w ∙ ap factorials s.columns)
    (ap (λ n. table_weight (transposed (length rows) w) * n) (sym (cells-transposed (length rows) w s.long)) ∙ weight-cells (transposed (length rows) w) ∙ ap factorials back.columns)

-- in the ratio of the numbers of labellings

totals-transposed : (columns rows : List ℕ) → sum columns ≡ sum rows → number_of_labellings rows * factorials rows ≡ number_of_labellings columns * factorials columns
totals-transposed columns rows level = weight-factorials rows ∙ ap factorial (sym (level-totals columns rows level)) ∙ sym (weight-factorials columns)

-- what is as B to A is as S to R, where R A is S B
in-ratio : (n m a b r s : ℕ) → 0 < a → 0 < b → n * a ≡ m * b → r * a ≡ s * b → n * s ≡ m * r
in-ratio n m a b r s some other e f = cancel (n * s) (m * r) (a * b) (some-times a b some other) (crossing n m a b r s e f)
  where
    crossing : (n m a b r s : ℕ) → n * a ≡ m * b → r * a ≡ s * b → (n * s) * (a * b) ≡ (m * r) * (a * b)
    crossing n m a b r s e f =
        let one : (n * s) * (a * b) ≡ (n * a) * (s * b) = grind arith in
        let two : (m * r) * (a * b) ≡ (m * b) * (r * a) = grind arith in
        one ∙ ap (λ x. x * (s * b)) e ∙ ap (λ x. (m * b) * x) (sym f) ∙ sym two

-- the weights are in the ratio of the numbers of labellings
pub weights-transposed : (columns rows : List ℕ) (w : List (List ℕ)) → sum columns ≡ sum rows → IsTable columns rows w → AreWeights columns rows w (transposed (length rows) w)
weights-transposed columns rows w level t =
    in-ratio (table_weight w) (table_weight (transposed (length rows) w)) (factorials rows) (factorials columns) (number_of_labellings rows) (number_of_labellings columns) (factorials-some rows) (factorials-some columns)
    (by-factorials columns rows w level t) (totals-transposed columns rows level)

pub compared-transposed : (columns rows : List ℕ) (w v : List (List ℕ)) → sum columns ≡ sum rows → IsTable columns rows w → IsTable columns rows v → ComparesTransposed (length rows) w v
compared-transposed columns rows w v level t s =
    compared (table_weight w) (table_weight v) (table_weight (transposed (length rows) w)) (table_weight (transposed (length rows) v)) (number_of_labellings columns) (number_of_labellings rows) (number_of_labellings-positive columns) (number_of_labellings-positive rows)
    (weights-transposed columns rows w level t) (weights-transposed columns rows v level s)

-- ---- weighed sums over tables

term-transposed : (a b f g p q : ℕ) → a * p ≡ b * q → f ≡ g → (a * f) * p ≡ (b * g) * q
term-transposed a b f g p q e h =
    let one : (a * f) * p ≡ (a * p) * f = grind arith in
    let two : (b * g) * q ≡ (b * q) * g = grind arith in
    one ∙ ap (λ n. n * f) e ∙ ap (λ n. (b * q) * n) h ∙ sym two

-- of what a table and the table transposed have in common
pub weighed-transposed : (columns rows : List ℕ) (f g : List (List ℕ) → ℕ) → sum columns ≡ sum rows → ((w : List (List ℕ)) → IsTable columns rows w → f w ≡ g (transposed (length rows) w)) → by_columns columns rows f * number_of_labellings columns ≡ by_columns rows columns g * number_of_labellings rows
weighed-transposed columns rows f g level same =
    sym (sum_by-times (number_of_labellings columns) (λ w. table_weight w * f w) (tables columns rows))
    ∙ sum_by-same_where (IsTable columns rows) (λ w. (table_weight w * f w) * number_of_labellings columns) (λ w. (table_weight (transposed (length rows) w) * g (transposed (length rows) w)) * number_of_labellings rows) (λ w t.
    term-transposed (table_weight w) (table_weight (transposed (length rows) w)) (f w) (g (transposed (length rows) w)) (number_of_labellings columns) (number_of_labellings rows) (weights-transposed columns rows w level t) (same w t)) (tables columns rows) (tables-each columns rows)
    ∙ transposing columns rows level (λ u. (table_weight u * g u) * number_of_labellings rows)
    ∙ sum_by-times (number_of_labellings rows) (λ u. table_weight u * g u) (tables rows columns)
