-- Pairs of a draw of each of two rows.
use Rattle.std.proofs.Common.{◌≡◌, ℕ, zero, suc, ◌+◌, ◌-◌, ◌*◌, ◌/◌, ◌^◌, ◌<◌, ◌≤◌, ◌⊎◌, inl, inr, List, [], ◌∷◌, length, take, drop, get_or, Bool, true, false, cond, refl, sym, subst, ◌∙◌, ap, arith, FitsSigned}
use Rattle.std.specs.Prelude.{ℤ, pos, ◌+ℤ◌, ◌-ℤ◌, ◌≤ℤ◌, int_le, int_lt, nat_le, nat_lt, not, ◌||◌, unsigned_abs}
use Rattle.std.specs.List.{sum}
use Rattle.std.proofs.lemmas.Int.{ints}
use Rattle.std.proofs.lemmas.Bool.{cases_lt}
use Rattle.std.proofs.lemmas.Bool.Decides.{nat_tests}
use Rattle.std.proofs.Math.Nat.{div-lt_iff_lt-mul}
use mir.Syntax.{w128}
use Rattle.weights.specs.declared.TheConstants.{MAX}
use Rattle.count_arrays.proofs.RowSums.{reach, row_sum, sum-cons, sum-take, times-≤, weighted-row}
use Rattle.score_convolution.specs.declared.sides.Sides.TheVariants.{Every, UpTo, Apart}
use Rattle.score_convolution.specs.Sides.{is_in, once}
use Rattle.score_convolution.specs.DrawRows.{number_of, row_draws}
use Rattle.score_convolution.specs.Meetings.{AreFew, pair_draws}
use Rattle.score_convolution.specs.Places.{placed_pairs}
use Rattle.score_convolution.specs.declared.rows.DrawRow.{DrawRow}
use Rattle.score_convolution.proofs.RowSteps.{cells-plus, cells-same, cells-steady, row-total}

-- ---- cells from a place on

pub drop-sum : (n : ℕ) (cells : List ℕ) → sum (drop n cells) ≤ sum cells
drop-sum zero cells = omega arith
drop-sum (suc n) [] = omega arith
drop-sum (suc n) (c ∷ cells) = omega (arith, sum-cons c cells, drop-sum n cells)

pub drop-past : (n : ℕ) (cells : List ℕ) → length cells ≤ n → sum (drop n cells) ≡ 0
drop-past zero [] h = refl
drop-past (suc n) [] h = refl
drop-past zero (c ∷ cells) h = absurd (omega (arith, h))
drop-past (suc n) (c ∷ cells) h = drop-past n cells (omega (arith, h))

pub drop-at : (n : ℕ) (cells : List ℕ) → n < length cells → sum (drop n cells) ≡ get_or cells n 0 + sum (drop (n + 1) cells)
drop-at n [] h = absurd (omega (arith, h))
drop-at zero (c ∷ cells) h = sum-cons c cells
drop-at (suc n) (c ∷ cells) h =
    let one : suc n + 1 ≡ suc (n + 1) = omega arith in
    rw one (drop-at n cells (omega (arith, h)))

-- there is no cell before
pub before-none : (place : ℕ) (cells : List ℕ) → (0 < place → length cells < place) → 0 + sum (drop place cells) ≡ sum (drop (place - 1) cells)
before-none zero cells none = omega arith
before-none (suc place) cells none =
    let back : suc place - 1 ≡ place = omega arith in
    omega (arith, drop-past (suc place) cells (omega (arith, none (omega arith))), drop-past place cells (omega (arith, none (omega arith))), ap (λ n. sum (drop n cells)) back)

-- ---- pairs by places

pairs-within : (place : ℕ) (ones others : List ℕ) → placed_pairs place ones others ≤ sum ones * sum others
pairs-within place [] others = omega arith
pairs-within place (c ∷ ones) others =
    let spread : (c + sum ones) * sum others ≡ sum others * c + sum ones * sum others = grind arith in
    let turned : c * sum (drop place others) ≡ sum (drop place others) * c = grind arith in
    rw (sum-cons c ones, spread) (omega (arith, turned, times-≤ (sum (drop place others)) (sum others) c (drop-sum place others), pairs-within (place - 1) ones others))

pub first-pairs-within : (place : ℕ) (ones others : List ℕ) (i : ℕ) → placed_pairs place (take i ones) others ≤ sum ones * sum others
first-pairs-within place ones others i = omega (arith, pairs-within place (take i ones) others, times-≤ (sum (take i ones)) (sum ones) (sum others) (sum-take ones i))

-- a cell more
pub pairs-more : (place : ℕ) (ones others : List ℕ) (i : ℕ) → i < length ones → placed_pairs place (take (i + 1) ones) others ≡ placed_pairs place (take i ones) others + get_or ones i 0 * sum (drop (place - i) others)
pairs-more place [] others i h = absurd (omega (arith, h))
pairs-more place (c ∷ ones) others zero h =
    let e : place - 0 ≡ place = omega arith in
    omega (arith, ap (λ n. c * sum (drop n others)) e)
pairs-more place (c ∷ ones) others (suc i) h =
    let one : suc i + 1 ≡ suc (i + 1) = omega arith in
    let left : (place - 1) - i ≡ place - suc i = omega arith in
    rw one (omega (arith, pairs-more (place - 1) ones others i (omega (arith, h)), ap (λ n. get_or ones i 0 * sum (drop n others)) left))

-- without the first cells, with which no other is enough
pub pairs-later : (first place : ℕ) (ones others : List ℕ) → first ≤ place - length others → placed_pairs place ones others ≡ placed_pairs (place - first) (drop first ones) others
pairs-later zero place ones others h =
    let all : place ≡ place - 0 = omega arith in
    ap (λ p. placed_pairs p ones others) all
pairs-later (suc first) place [] others h = refl
pairs-later (suc first) place (c ∷ ones) others h =
    let left : (place - 1) - first ≡ place - suc first = omega arith in
    let none : sum (drop place others) ≡ 0 = drop-past place others (omega (arith, h)) in
    let rest = pairs-later first (place - 1) ones others (omega (arith, h)) in
    rw none (omega (arith, rest, ap (λ p. placed_pairs p (drop first ones) others) left))

-- ---- pairs by their sums

module _ (bound : ℤ) (stride : ℕ) where
  -- the first place at which a row that begins with this number is above
  abbrev pub IsFirst : ℤ → ℕ → Type 0
  IsFirst lowest place = (n : ℕ) → int_lt bound (lowest +ℤ pos (n * stride)) ≡ nat_le place n

  -- the row that begins a stride on
  first-on : (lowest : ℤ) (place : ℕ) → IsFirst lowest place → IsFirst (lowest +ℤ pos stride) (place - 1)
  first-on lowest place first n =
      let e : stride + n * stride ≡ suc n * stride = grind arith in
      ap (int_lt bound) (moved lowest stride (n * stride) ∙ ap (λ m. lowest +ℤ pos m) e) ∙ first (suc n) ∙ less place n
    where
      moved : (a : ℤ) (m k : ℕ) → (a +ℤ pos m) +ℤ pos k ≡ a +ℤ pos (m + k)
      moved a m k = omega (arith, ints)

      less : (p n : ℕ) → nat_le p (suc n) ≡ nat_le (p - 1) n
      less zero n = grind arith
      less (suc p) n = grind arith

  first-here : (lowest : ℤ) (place : ℕ) → IsFirst lowest place → int_lt bound lowest ≡ nat_le place 0
  first-here lowest place first =
      let e : 0 * stride ≡ 0 = omega arith in
      ap (int_lt bound) (same lowest ∙ ap (λ m. lowest +ℤ pos m) (sym e)) ∙ first 0
    where
      same : (a : ℤ) → a ≡ a +ℤ pos 0
      same a = omega (arith, ints)

  never : (place : ℕ) → nat_le (suc place) 0 ≡ false
  never place = grind arith

  over : (u lowest : ℤ) → (u +ℤ lowest) +ℤ pos stride ≡ u +ℤ (lowest +ℤ pos stride)
  over u lowest = omega (arith, ints)

  one-row : (u lowest : ℤ) (place : ℕ) (cells : List ℕ) → IsFirst (u +ℤ lowest) place → row_sum (λ k. once (int_lt bound) (u +ℤ number_of k)) lowest (pos stride) cells ≡ sum (drop place cells)
  one-row u lowest place [] first = sym (drop-past place [] (omega arith))
  one-row u lowest zero (c ∷ cells) first =
      let here : int_lt bound (u +ℤ lowest) ≡ true = first-here (u +ℤ lowest) zero first in
      let on : IsFirst (u +ℤ (lowest +ℤ pos stride)) zero = subst (λ z. IsFirst z zero) (over u lowest) (first-on (u +ℤ lowest) zero first) in
      rw here (omega (arith, sum-cons c cells, one-row u (lowest +ℤ pos stride) zero cells on))
  one-row u lowest (suc place) (c ∷ cells) first =
      let here : int_lt bound (u +ℤ lowest) ≡ false = first-here (u +ℤ lowest) (suc place) first ∙ never place in
      let back : suc place - 1 ≡ place = omega arith in
      let on : IsFirst (u +ℤ (lowest +ℤ pos stride)) place = subst (λ z. IsFirst z place) (over u lowest) (subst (λ n. IsFirst ((u +ℤ lowest) +ℤ pos stride) n) back (first-on (u +ℤ lowest) (suc place) first)) in
      rw here (omega (arith, one-row u (lowest +ℤ pos stride) place cells on))

  two-rows : (low high : ℤ) (place : ℕ) (ones others : List ℕ) → IsFirst (low +ℤ high) place → row_sum (λ k. row_sum (λ l. once (int_lt bound) (number_of k +ℤ number_of l)) high (pos stride) others) low (pos stride) ones ≡ placed_pairs place ones others
  two-rows low high place [] others first = refl
  two-rows low high place (c ∷ ones) others first =
      let on : IsFirst ((low +ℤ pos stride) +ℤ high) (place - 1) = subst (λ z. IsFirst z (place - 1)) (turned low high (pos stride)) (first-on (low +ℤ high) place first) in
      rw (one-row low high place others first, two-rows (low +ℤ pos stride) high (place - 1) ones others on) refl
    where
      turned : (a b c : ℤ) → (a +ℤ b) +ℤ c ≡ (a +ℤ c) +ℤ b
      turned a b c = omega (arith, ints)

-- ---- the first place above a bound

-- how far a number lies below a bound
pub gap-small : (bound lowest : ℤ) → FitsSigned w128 bound → unsigned_abs lowest ≤ MAX → int_lt bound lowest ≡ false → unsigned_abs (bound -ℤ lowest) + 1 < 2 ^ 128
gap-small bound lowest f h e = grind (arith, ints, f.sfits, h, e)

-- a row that begins above is above throughout
pub first-none : (bound lowest : ℤ) (m n : ℕ) → int_lt bound lowest ≡ true → int_lt bound (lowest +ℤ pos m) ≡ nat_le 0 n
first-none bound lowest m n h = past ∙ sym (always n)
  where
    past : int_lt bound (lowest +ℤ pos m) ≡ true
    past = grind (arith, ints)

    always : (n : ℕ) → nat_le 0 n ≡ true
    always n = grind arith

-- two tests that hold at once
tests : (a m b n : ℕ) → (a < m → b < n) → (b < n → a < m) → nat_lt a m ≡ nat_le (b + 1) n
tests a m b n on back = by (cases_lt a m) (cases_lt b n)
  where
    by : (a < m) ⊎ (m ≤ a) → (b < n) ⊎ (n ≤ b) → nat_lt a m ≡ nat_le (b + 1) n
    by (inl h) (inl k) = grind (arith, nat_tests, h, k)
    by (inr h) (inr k) = grind (arith, nat_tests, h, k)
    by (inl h) (inr k) = absurd (omega (arith, k, on h))
    by (inr h) (inl k) = absurd (omega (arith, h, back k))

-- or it is those after the last place that is not
pub first-at : (bound lowest : ℤ) (stride n : ℕ) → 0 < stride → int_lt bound lowest ≡ false → int_lt bound (lowest +ℤ pos (n * stride)) ≡ nat_le (unsigned_abs (bound -ℤ lowest) / stride + 1) n
first-at bound lowest stride n some h =
    let gap : ℕ = unsigned_abs (bound -ℤ lowest) in
    let places = div-lt_iff_lt-mul {k = stride} {x = gap} {y = n} some in
    ap (λ z. int_lt z (lowest +ℤ pos (n * stride))) (sym (reach lowest bound (below bound lowest h))) ∙ apart lowest gap (n * stride) ∙ tests gap (n * stride) (gap / stride) n places.1 places.0
  where
    below : (bound lowest : ℤ) → int_lt bound lowest ≡ false → lowest ≤ℤ bound
    below bound lowest h = grind (arith, ints, h)

    apart : (l : ℤ) (a b : ℕ) → int_lt (l +ℤ pos a) (l +ℤ pos b) ≡ nat_lt a b
    apart l a b = by (cases_lt a b)
      where
        by : (a < b) ⊎ (b ≤ a) → int_lt (l +ℤ pos a) (l +ℤ pos b) ≡ nat_lt a b
        by (inl h) = grind (arith, ints, nat_tests, h)
        by (inr h) = grind (arith, ints, nat_tests, h)

-- ---- pairs of two rows

-- a value is up to a bound or above it
at-most : (m v : ℤ) → 1 ≡ once (int_le v) m + once (int_lt m) v
at-most m v = by (int_le v m) (int_lt m v) refl refl
  where
    by : (a b : Bool) → int_le v m ≡ a → int_lt m v ≡ b → 1 ≡ cond a 1 0 + cond b 1 0
    by true true e h = grind (arith, ints)
    by true false e h = refl
    by false true e h = refl
    by false false e h = grind (arith, ints)

-- what is on either side is on one
either : (most least : ℤ) → most ≤ℤ least → (v : ℤ) → once (is_in (Apart most least)) v ≡ once (is_in (UpTo most)) v + once (int_lt least) v
either most least h v = by (int_le v most) (int_lt least v) refl refl
  where
    by : (a b : Bool) → int_le v most ≡ a → int_lt least v ≡ b → cond (a || b) 1 0 ≡ cond a 1 0 + cond b 1 0
    by true true e k = grind (arith, ints)
    by true false e k = refl
    by false b e k = omega arith

one-of : (b : Bool) → 1 ≡ cond b 1 0 + cond (not b) 1 0
one-of true = refl
one-of false = refl

module _ {K : Type 0} (cells_of : K → List ℕ) (stride : ℕ) (one other : DrawRow K) where
  abbrev first_cells : List ℕ
  first_cells = cells_of one.tally

  abbrev second_cells : List ℕ
  second_cells = cells_of other.tally

  pub placed-are : (bound : ℤ) (place : ℕ) → IsFirst bound stride (one.lowest +ℤ other.lowest) place → pair_draws cells_of (once (int_lt bound)) stride one other ≡ placed_pairs place first_cells second_cells
  placed-are bound place first =
      let inner : ℤ → ℕ = λ (u : ℤ). row_sum (λ l. once (int_lt bound) (u +ℤ number_of l)) other.lowest (pos stride) second_cells in
      cells-same (λ u. row_draws cells_of (λ v. once (int_lt bound) (u +ℤ v)) stride other) inner (λ u. weighted-row (λ l. once (int_lt bound) (u +ℤ number_of l)) other.lowest (pos stride) second_cells) stride one.lowest first_cells
      ∙ weighted-row (λ k. inner (number_of k)) one.lowest (pos stride) first_cells
      ∙ two-rows bound stride one.lowest other.lowest place first_cells second_cells first

  pairs-plus : (p q r : ℤ → ℕ) → ((v : ℤ) → r v ≡ p v + q v) → pair_draws cells_of r stride one other ≡ pair_draws cells_of p stride one other + pair_draws cells_of q stride one other
  pairs-plus p q r e =
      cells-same (λ u. row_draws cells_of (λ v. r (u +ℤ v)) stride other) (λ u. row_draws cells_of (λ v. p (u +ℤ v)) stride other + row_draws cells_of (λ v. q (u +ℤ v)) stride other)
      (λ u. cells-same (λ v. r (u +ℤ v)) (λ v. p (u +ℤ v) + q (u +ℤ v)) (λ v. e (u +ℤ v)) stride other.lowest second_cells ∙ cells-plus (λ v. p (u +ℤ v)) (λ v. q (u +ℤ v)) stride other.lowest second_cells) stride one.lowest first_cells
      ∙ cells-plus (λ u. row_draws cells_of (λ v. p (u +ℤ v)) stride other) (λ u. row_draws cells_of (λ v. q (u +ℤ v)) stride other) stride one.lowest first_cells

  module _ (limit : ℕ) (few : AreFew cells_of limit one other) where
    pub pairs-all : pair_draws cells_of (once (is_in Every)) stride one other ≡ one.total * other.total
    pairs-all =
        cells-same (λ u. row_draws cells_of (λ v. 1) stride other) (λ u. other.total) (λ u. row-total cells_of limit stride other few.second) stride one.lowest first_cells
        ∙ cells-steady other.total stride one.lowest first_cells
        ∙ ap (λ m. m * other.total) (sym few.first.whole)

    -- what is not above a bound is up to it
    pub pairs-up_to : (most : ℤ) → one.total * other.total ≡ pair_draws cells_of (once (is_in (UpTo most))) stride one other + pair_draws cells_of (once (int_lt most)) stride one other
    pairs-up_to most = sym pairs-all ∙ pairs-plus (once (is_in (UpTo most))) (once (int_lt most)) (once (is_in Every)) (at-most most)

    pub pairs-apart : (most least : ℤ) → most ≤ℤ least → pair_draws cells_of (once (is_in (Apart most least))) stride one other ≡ pair_draws cells_of (once (is_in (UpTo most))) stride one other + pair_draws cells_of (once (int_lt least)) stride one other
    pairs-apart most least h = pairs-plus (once (is_in (UpTo most))) (once (int_lt least)) (once (is_in (Apart most least))) (either most least h)

    -- and no more than all
    pub pairs-most : (p : ℤ → Bool) → pair_draws cells_of (once p) stride one other ≤ one.total * other.total
    pairs-most p = omega (arith, sym pairs-all ∙ pairs-plus (once p) (once (λ v. not (p v))) (once (is_in Every)) (λ v. one-of (p v)))
