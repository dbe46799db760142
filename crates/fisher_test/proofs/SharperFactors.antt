-- The narrower of what the columns say and of what the rows say, as a column is chosen.
use Rattle.std.proofs.Common.{◌≡◌, ℕ, ◌+◌, ◌*◌, ◌<◌, ◌≤◌, ◌⊎◌, inl, inr, max, min, List, [], ◌∷◌, length, cond, refl, sym, ◌∙◌, ap, subst, arith, nat_le}
use Rattle.std.specs.List.{sum}
use Rattle.std.proofs.Math.Nat.{mul-le-mul_left, mul-le-mul_right}
use Rattle.std.proofs.lemmas.Bool.{le-leb}
use Rattle.std.proofs.lemmas.Bool.Decides.{leb_tells}
use Rattle.weights.specs.declared.TheConstants.{MAX}
use Rattle.weights.specs.Grouped.{minus}
use Rattle.weights.specs.Labellings.{number_of_labellings}
use Rattle.weights.proofs.ChoiceLists.{IsChoice}
use Rattle.weights.proofs.FirstLabel.{number_of_labellings-none}
use Rattle.weights.proofs.Sized.{length-minus}
use Rattle.completion_bounds.specs.Fillings.{greatest_weight, least_weight, product_by}
use Rattle.completion_bounds.proofs.Factorials.{total, total-is, factorial_least}
use Rattle.completion_bounds.proofs.Narrowing.{greatest-step, least-step}
use Rattle.completion_bounds.proofs.TableWeights.{least-all as columns-all}
use Rattle.row_products.specs.RowProducts.{factorial, greatest_by_rows, least_by_rows}
use Rattle.row_products.proofs.ByRows.{greatest-ends, greatest-onward, least-all as rows-all, least-ends, least-onward}

-- what each column says by itself, and with what the rows say
abbrev pub columns_low : List ℕ → List ℕ → ℕ
columns_low later r = product_by (least_weight r) later

abbrev pub columns_high : List ℕ → List ℕ → ℕ
columns_high later r = min (number_of_labellings r) (product_by (greatest_weight (length r)) later)

abbrev pub low_over : List ℕ → List ℕ → ℕ
low_over later r = cond (nat_le (product_by factorial later) MAX) (max (columns_low later r) (least_by_rows r later)) (columns_low later r)

abbrev pub high_over : List ℕ → List ℕ → ℕ
high_over later r = cond (nat_le (product_by factorial later) MAX) (min (columns_high later r) (greatest_by_rows r later)) (columns_high later r)

low-both : (later r : List ℕ) → product_by factorial later ≤ MAX → low_over later r ≡ max (columns_low later r) (least_by_rows r later)
low-both later r h = rw (le-leb (product_by factorial later) MAX h) refl

high-both : (later r : List ℕ) → product_by factorial later ≤ MAX → high_over later r ≡ min (columns_high later r) (greatest_by_rows r later)
high-both later r h = rw (le-leb (product_by factorial later) MAX h) refl

-- where the factorials are held or not
low-cases : (later r : List ℕ) → ((product_by factorial later ≤ MAX) × (low_over later r ≡ max (columns_low later r) (least_by_rows r later))) ⊎ (low_over later r ≡ columns_low later r)
low-cases later r = elim (leb_tells (product_by factorial later) MAX) [
  | inl e ↦ inl (e.1, low-both later r e.1)
  | inr e ↦ inr (rw e.0 refl)
]

high-cases : (later r : List ℕ) → ((product_by factorial later ≤ MAX) × (high_over later r ≡ min (columns_high later r) (greatest_by_rows r later))) ⊎ (high_over later r ≡ columns_high later r)
high-cases later r = elim (leb_tells (product_by factorial later) MAX) [
  | inl e ↦ inl (e.1, high-both later r e.1)
  | inr e ↦ inr (rw e.0 refl)
]

low-more : (later r : List ℕ) → columns_low later r ≤ low_over later r
low-more later r = elim (low-cases later r) [
  | inl e ↦ omega (arith, e.1)
  | inr e ↦ omega (arith, e)
]

high-less : (later r : List ℕ) → high_over later r ≤ columns_high later r
high-less later r = elim (high-cases later r) [
  | inl e ↦ omega (arith, e.1)
  | inr e ↦ omega (arith, e)
]

greater-of : (s a b u v : ℕ) → u ≤ s * a → v ≤ s * b → max u v ≤ s * max a b
greater-of s a b u v h j =
    let one : s * a ≤ s * max a b = mul-le-mul_left s (omega arith) in
    let two : s * b ≤ s * max a b = mul-le-mul_left s (omega arith) in
    omega (arith, one, two, h, j)

lesser-of : (s a b u v : ℕ) → s * a ≤ u → s * b ≤ v → s * min a b ≤ min u v
lesser-of s a b u v h j =
    let one : s * min a b ≤ s * a = mul-le-mul_left s (omega arith) in
    let two : s * min a b ≤ s * b = mul-le-mul_left s (omega arith) in
    omega (arith, one, two, h, j)

-- the columns c and cs, of which c is chosen
module _ (c : ℕ) (cs r x : List ℕ) (o : IsChoice c r x) (level : total r ≡ c + total cs) where
  fewer : product_by factorial cs ≤ product_by factorial (c ∷ cs)
  fewer = let more : 1 * product_by factorial cs ≤ factorial c * product_by factorial cs = mul-le-mul_right (product_by factorial cs) (factorial_least c) in omega (arith, more)

  columns-rise : columns_low (c ∷ cs) r ≤ number_of_labellings x * columns_low cs (minus r x)
  columns-rise = least-step c cs r x o (omega (arith, level, total-is r, total-is cs))

  pub low-onward : low_over (c ∷ cs) r ≤ number_of_labellings x * low_over cs (minus r x)
  low-onward = elim (low-cases (c ∷ cs) r) [
    | inl e ↦ (let later : low_over cs (minus r x) ≡ max (columns_low cs (minus r x)) (least_by_rows (minus r x) cs) = low-both cs (minus r x) (omega (arith, fewer, e.0)) in
        let both = greater-of (number_of_labellings x) _ _ _ _ columns-rise (least-onward c cs r x o level) in
        rw (e.1, later) both)
    | inr e ↦ (let more : number_of_labellings x * columns_low cs (minus r x) ≤ number_of_labellings x * low_over cs (minus r x) = mul-le-mul_left (number_of_labellings x) (low-more cs (minus r x)) in
        omega (arith, e, more, columns-rise))
  ]

  module _ (some : 0 < length r) where
    columns-fall : number_of_labellings x * columns_high cs (minus r x) ≤ columns_high (c ∷ cs) r
    columns-fall = subst (λ n. number_of_labellings x * min (number_of_labellings (minus r x)) (product_by (greatest_weight n) cs) ≤ columns_high (c ∷ cs) r) (sym (length-minus r x)) (greatest-step c cs r x o some)

    pub high-onward : number_of_labellings x * high_over cs (minus r x) ≤ high_over (c ∷ cs) r
    high-onward = elim (high-cases (c ∷ cs) r) [
      | inl e ↦ (let later : high_over cs (minus r x) ≡ min (columns_high cs (minus r x)) (greatest_by_rows (minus r x) cs) = high-both cs (minus r x) (omega (arith, fewer, e.0)) in
          let both = lesser-of (number_of_labellings x) _ _ _ _ columns-fall (greatest-onward c cs r x o level) in
          rw (e.1, later) both)
      | inr e ↦ (let less : number_of_labellings x * high_over cs (minus r x) ≤ number_of_labellings x * columns_high cs (minus r x) = mul-le-mul_left (number_of_labellings x) (high-less cs (minus r x)) in
          omega (arith, e, less, columns-fall))
    ]

-- no columns are left

pub low-ends : (r : List ℕ) → low_over [] r ≡ 1
low-ends r = low-both [] r (omega arith) ∙ ap (max 1) (least-ends r)

pub high-ends : (r : List ℕ) → sum r ≡ 0 → high_over [] r ≡ 1
high-ends r e = high-both [] r (omega arith) ∙ omega (arith, number_of_labellings-none r e, greatest-ends r (total-is r ∙ e))

-- neither is more than all labellings

pub low-most : (later r : List ℕ) → sum r ≡ sum later → low_over later r ≤ number_of_labellings r
low-most later r e =
    let level : total r ≡ total later = total-is r ∙ e ∙ sym (total-is later) in
    elim (low-cases later r) [
      | inl f ↦ omega (arith, f.1, columns-all r later level, rows-all later r level)
      | inr f ↦ omega (arith, f, columns-all r later level)
    ]

pub high-most : (later r : List ℕ) → high_over later r ≤ number_of_labellings r
high-most later r = omega (arith, high-less later r)
