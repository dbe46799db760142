-- A row of draws of any number of subjects, with a subject more.
use Rattle.std.proofs.Common.{◌≡◌, ℕ, ◌+◌, List, ◌++◌, Bool, true, false, cond, true≢false, ◌⊎◌, inl, inr, refl, sym, ◌∙◌, ap, arith}
use Rattle.std.specs.Prelude.{ℤ, pos, ◌+ℤ◌, ◌-ℤ◌, unsigned_abs}
use Rattle.std.proofs.lemmas.Int.{ints}
use Rattle.score_convolution.specs.Sides.{once}
use Rattle.score_convolution.specs.Draws.{draw_sum}
use Rattle.score_convolution.specs.DrawRows.{row_draws}
use Rattle.score_convolution.specs.declared.rows.DrawRow.{DrawRow}
use Rattle.score_convolution.proofs.BothParts.{started}
use Rattle.score_convolution.proofs.DrawSums.{draw-parts, draw-same}
use Rattle.score_convolution.proofs.RowSteps.{cells-same}

-- one of both ends is 0, the other the score
pub size-between : (lower upper score : ℤ) → lower +ℤ upper ≡ score → (lower ≡ pos 0) ⊎ (upper ≡ pos 0) → unsigned_abs (upper -ℤ lower) ≡ unsigned_abs score
size-between lower upper score e (inl none) =
    let is : upper -ℤ lower ≡ score = omega (arith, ints, e, none) in
    ap unsigned_abs is
size-between lower upper score e (inr none) =
    let is : lower ≡ score = omega (arith, ints, e, none) in
    ap (λ z. unsigned_abs (z -ℤ lower)) none ∙ opposite lower ∙ ap unsigned_abs is
  where
    opposite : (z : ℤ) → unsigned_abs (pos 0 -ℤ z) ≡ unsigned_abs z
    opposite z = grind (arith, ints)

module _ {K : Type 0} (cells_of : K → List ℕ) (stride : ℕ) (g : ℤ → ℕ) (row : DrawRow K) where
  abbrev pub moved : ℤ → ℕ
  moved score = row_draws cells_of (λ v. g (v +ℤ score)) stride row

  unmoved : moved (pos 0) ≡ row_draws cells_of g stride row
  unmoved = cells-same (λ v. g (v +ℤ pos 0)) g (λ v. ap g (none v)) stride row.lowest (cells_of row.tally)
    where
      none : (v : ℤ) → v +ℤ pos 0 ≡ v
      none v = omega (arith, ints)

  pub drawn-or-left : (lower upper score : ℤ) → lower +ℤ upper ≡ score → (lower ≡ pos 0) ⊎ (upper ≡ pos 0) → moved lower + moved upper ≡ row_draws cells_of g stride row + moved score
  drawn-or-left lower upper score e (inl none) =
      let is : upper ≡ score = omega (arith, ints, e, none) in
      omega (arith, ap moved none, ap moved is, unmoved)
  drawn-or-left lower upper score e (inr none) =
      let is : lower ≡ score = omega (arith, ints, e, none) in
      omega (arith, ap moved none, ap moved is, unmoved)

-- the pairs of both halves are the draws of all
pub halves-met : {K : Type 0} (cells_of : K → List ℕ) (stride : ℕ) (p : ℤ → Bool) (first second : List ℤ) (row other : DrawRow K)
    → ((g : ℤ → ℕ) → row_draws cells_of g stride row ≡ draw_sum (λ n v. g v) 0 (pos 0) first)
    → ((g : ℤ → ℕ) → row_draws cells_of g stride other ≡ draw_sum (λ n v. g v) 0 (pos 0) second)
    → row_draws cells_of (λ u. row_draws cells_of (λ v. once p (u +ℤ v)) stride other) stride row ≡ draw_sum (λ m. once p) 0 (pos 0) (first ++ second)
halves-met cells_of stride p first second row other one two =
    one (λ u. row_draws cells_of (λ v. once p (u +ℤ v)) stride other)
    ∙ draw-same (λ n u. row_draws cells_of (λ v. once p (u +ℤ v)) stride other) (λ n u. draw_sum (λ m. once p) n u second) (λ n u. two (λ v. once p (u +ℤ v)) ∙ sym (started (λ m. once p) n u second)) 0 (pos 0) first
    ∙ sym (draw-parts (λ m. once p) 0 (pos 0) first second)

pub asked-is : (b : Bool) (n : ℕ) → b ≡ true → cond b n 0 ≡ n
asked-is true n e = refl
asked-is false n e = absurd (true≢false (sym e))
