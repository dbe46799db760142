-- How many labellings give a first cell rises up to some cell, and then falls: it is least at an end.
use Rattle.std.proofs.Common.{suc-mul, ◌≡◌, ℕ, zero, suc, ◌+◌, ◌-◌, ◌*◌, ◌≤◌, inl, inr, refl, sym, ◌∙◌, ap, arith}
use Rattle.std.specs.Prelude.{min}
use Rattle.std.proofs.Math.Nat.{mul-le-mul, mul-le-mul_left, mul-le-mul_right}
use Rattle.std.proofs.lemmas.Bool.{cases_lt}
use Rattle.weights.specs.Numbers.{binomial}
use Rattle.weights.proofs.Binomials.{binomial-marked, binomial-pascal}
use Rattle.strata_cells.specs.declared.stratum.Stratum.{Stratum}
use Rattle.strata_cells.specs.Strata.{cell_weight, first_column, first_row, greatest_cell, least_cell, size}
use Rattle.zelen_test.specs.ZelenNetwork.{lesser_weight}

-- ---- products

spread : (i d a : ℕ) → suc (i + d) * a ≡ suc i * a + d * a
spread i d a = grind arith

both-times : (i a b : ℕ) → suc i * (a + b) ≡ suc i * a + suc i * b
both-times i a b = grind arith

-- the next binomial by the one before
next-binomial : (i d : ℕ) → suc i * binomial (i + d) (suc i) ≡ d * binomial (i + d) i
next-binomial i d =
    let a : ℕ = binomial (i + d) i in
    let b : ℕ = binomial (i + d) (suc i) in
    let t : ℕ = binomial (suc (i + d)) (suc i) in
    let marked : suc i * t ≡ suc (i + d) * a = binomial-marked (i + d) i in
    let whole : suc i * t ≡ suc i * (a + b) = ap (λ n. suc i * n) (binomial-pascal (i + d) i) in
    omega (arith, marked, whole, spread i d a, both-times i a b)

crossed : (a b m n : ℕ) → (a * b) * (m * n) ≡ (m * a) * (n * b)
crossed a b m n = grind arith

turned : (p a m b : ℕ) → (p * a) * (m * b) ≡ (a * b) * (p * m)
turned p a m b = grind arith

suc-some : (x e : ℕ) → 1 ≤ e → 1 ≤ suc x * e
suc-some x e h = let one : 1 ≤ suc x = omega arith in mul-le-mul one h

no-less : (a b m : ℕ) → 1 ≤ m → a * m ≤ b * m → a ≤ b
no-less a b m one h = elim (cases_lt b a) [
  | inl less ↦ (let more : suc b * m ≤ a * m = mul-le-mul_right m less in
      let step : suc b * m ≡ b * m + m = suc-mul b m in
      absurd (omega (arith, more, step, h, one)))
  | inr most ↦ omega (arith, most)
]

-- two neighbours: how many labellings give them, by how many subjects may change places
module _ (x p m e : ℕ) where
  abbrev here : ℕ
  here = binomial (x + p) x * binomial (m + e) (suc m)

  abbrev next : ℕ
  next = binomial (x + p) (suc x) * binomial (m + e) m

  exchanged : next * (suc x * e) ≡ here * (p * suc m)
  exchanged =
      let c : suc x * binomial (x + p) (suc x) ≡ p * binomial (x + p) x = next-binomial x p in
      let d : suc m * binomial (m + e) (suc m) ≡ e * binomial (m + e) m = next-binomial m e in
      crossed (binomial (x + p) (suc x)) (binomial (m + e) m) (suc x) e
      ∙ ap (λ n. n * (e * binomial (m + e) m)) c
      ∙ ap (λ n. (p * binomial (x + p) x) * n) (sym d)
      ∙ turned p (binomial (x + p) x) (suc m) (binomial (m + e) (suc m))

  rises : 1 ≤ e → suc x * e ≤ p * suc m → here ≤ next
  rises some h =
      let more : here * (suc x * e) ≤ here * (p * suc m) = mul-le-mul_left here h in
      no-less here next (suc x * e) ((suc-some x e some)) (omega (arith, more, exchanged))

  falls : 1 ≤ e → p * suc m ≤ suc x * e → next ≤ here
  falls some h =
      let more : here * (p * suc m) ≤ here * (suc x * e) = mul-le-mul_left here h in
      no-less next here (suc x * e) ((suc-some x e some)) (omega (arith, more, exchanged))

-- ---- of a stratum

-- with c in the first column, k others and n in the first row
module _ (c k n : ℕ) where
  abbrev weight : ℕ → ℕ
  weight x = binomial c x * binomial k (n - x)

  -- in how many ways a subject of the first row can change its column to one side, and to the other
  abbrev leaving : ℕ → ℕ
  leaving x = suc x * (k + suc x - n)

  abbrev coming : ℕ → ℕ
  coming x = (c - x) * suc (n - suc x)

  -- a cell that is not the greatest
  record IsBefore (x : ℕ) : Type 0 where
    pub few : n ≤ k + x
    pub column : suc x ≤ c
    pub row : suc x ≤ n

  up : (x : ℕ) → IsBefore x → leaving x ≤ coming x → weight x ≤ weight (suc x)
  up x b h =
      let whole : x + (c - x) ≡ c = omega (arith, b.column) in
      let others : n - suc x + (k + suc x - n) ≡ k = omega (arith, b.few, b.row) in
      let left : suc (n - suc x) ≡ n - x = omega (arith, b.row) in
      rw (whole, others, left) at (rises x (c - x) (n - suc x) (k + suc x - n) (omega (arith, b.few)) h)

  down : (x : ℕ) → IsBefore x → coming x ≤ leaving x → weight (suc x) ≤ weight x
  down x b h =
      let whole : x + (c - x) ≡ c = omega (arith, b.column) in
      let others : n - suc x + (k + suc x - n) ≡ k = omega (arith, b.few, b.row) in
      let left : suc (n - suc x) ≡ n - x = omega (arith, b.row) in
      rw (whole, others, left) at (falls x (c - x) (n - suc x) (k + suc x - n) (omega (arith, b.few)) h)

  leaving-grows : (x y : ℕ) → x ≤ y → leaving x ≤ leaving y
  leaving-grows x y h = mul-le-mul (omega (arith, h)) (omega (arith, h))

  coming-falls : (x y : ℕ) → x ≤ y → coming y ≤ coming x
  coming-falls x y h = mul-le-mul (omega (arith, h)) (omega (arith, h))

  -- up to a cell from which it does not fall
  climbs : (low d : ℕ) → n ≤ k + low → suc (low + d) ≤ c → suc (low + d) ≤ n → leaving (low + d) ≤ coming (low + d) → weight low ≤ weight (low + d)
  climbs low zero few column row h = rw (let e : low + 0 ≡ low = omega arith in e) (omega arith)
  climbs low (suc d) few column row h =
      let here : leaving (low + d) ≤ coming (low + d) = omega (arith, leaving-grows (low + d) (low + suc d) (omega arith), coming-falls (low + d) (low + suc d) (omega arith), h) in
      let step : weight (low + d) ≤ weight (suc (low + d)) = up (low + d) (record { few = omega (arith, few); column = omega (arith, column); row = omega (arith, row) }) here in
      rw (let e : low + suc d ≡ suc (low + d) = omega arith in e) (omega (arith, climbs low d few (omega (arith, column)) (omega (arith, row)) here, step))

  -- and from a cell on from which it does not rise
  sinks : (x d : ℕ) → n ≤ k + x → x + d ≤ c → x + d ≤ n → (d ≡ 0 → ⊥) → coming x ≤ leaving x → weight (x + d) ≤ weight x
  sinks x zero few column row some h = absurd (some refl)
  sinks x (suc zero) few column row some h = rw (let e : x + 1 ≡ suc x = omega arith in e) (down x (record { few = few; column = omega (arith, column); row = omega (arith, row) }) h)
  sinks x (suc (suc d)) few column row some h =
      let here : coming (x + suc d) ≤ leaving (x + suc d) = omega (arith, leaving-grows x (x + suc d) (omega arith), coming-falls x (x + suc d) (omega arith), h) in
      let step : weight (suc (x + suc d)) ≤ weight (x + suc d) = down (x + suc d) (record { few = omega (arith, few); column = omega (arith, column); row = omega (arith, row) }) here in
      rw (let e : x + suc (suc d) ≡ suc (x + suc d) = omega arith in e) (omega (arith, sinks x (suc d) few (omega (arith, column)) (omega (arith, row)) (λ e. omega (arith, e)) h, step))

  least-at-ends : (low high x : ℕ) → n ≤ k + low → high ≤ c → high ≤ n → low ≤ x → x ≤ high → min (weight low) (weight high) ≤ weight x
  least-at-ends low high x few column row l h = elim (cases_lt x high) [
    | inr last ↦ (let same : x ≡ high = omega (arith, last, h) in rw same (smaller (weight low) (weight high)))
    | inl before ↦ elim (cases_lt (coming x) (leaving x)) [
      | inl sinking ↦
          (let end : x + (high - x) ≡ high = omega (arith, h) in
          let less : weight high ≤ weight x = rw end at (sinks x (high - x) (omega (arith, few, l)) (omega (arith, column, h)) (omega (arith, row, h)) (λ e. omega (arith, e, before)) (omega (arith, sinking))) in
          other (weight low) (weight high) (weight x) less)
      | inr climbing ↦
          (let here : low + (x - low) ≡ x = omega (arith, l) in
          let less : weight low ≤ weight x = rw here at (climbs low (x - low) few (omega (arith, before, column, l)) (omega (arith, before, row, l)) (rw here (omega (arith, climbing)))) in
          one (weight low) (weight high) (weight x) less)
    ]
  ]
    where
      smaller : (a b : ℕ) → min a b ≤ b
      smaller a b = omega arith

      one : (a b m : ℕ) → a ≤ m → min a b ≤ m
      one a b m h = omega (arith, h)

      other : (a b m : ℕ) → b ≤ m → min a b ≤ m
      other a b m h = omega (arith, h)

-- the lesser weight of the least and the greatest first cell is at most any between
pub lesser-least : (s : Stratum) (x : ℕ) → least_cell s ≤ x → x ≤ greatest_cell s → lesser_weight s ≤ cell_weight s x
lesser-least s x l h = least-at-ends (first_column s) (size s - first_column s) (first_row s) (least_cell s) (greatest_cell s) x (omega arith) (omega arith) (omega arith) l h
