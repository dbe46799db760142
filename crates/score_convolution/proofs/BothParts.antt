-- Where two parts of the subjects meet.
use Rattle.std.proofs.Common.{◌≡◌, ℕ, zero, suc, ◌+◌, ◌-◌, ◌<◌, ◌≤◌, List, [], ◌∷◌, ◌++◌, take, length, get_or, Bool, sym, ◌∙◌, ap, arith}
use Rattle.std.specs.Prelude.{ℤ, pos, ◌+ℤ◌}
use Rattle.std.proofs.lemmas.Int.{ints}
use Rattle.score_convolution.specs.Sides.{once}
use Rattle.score_convolution.specs.Draws.{draw_sum}
use Rattle.score_convolution.specs.DrawRows.{AreDraws, NoneAbove, row_draws, rows_draws}
use Rattle.score_convolution.specs.Meetings.{drawn_at, met}
use Rattle.score_convolution.specs.declared.rows.DrawRow.{DrawRow}
use Rattle.score_convolution.proofs.DrawSums.{draw-moved, draw-parts}
use Rattle.score_convolution.proofs.DrawnLabels.{elsewhere, here}
use Rattle.score_convolution.proofs.RowSteps.{cells-same, rows-at, rows-past, rows-none, rows-same}

-- nobody is drawn yet
pub started : (f : ℕ → ℤ → ℕ) (n : ℕ) (u : ℤ) (scores : List ℤ) → draw_sum f n u scores ≡ draw_sum (λ m v. f (m + n) (u +ℤ v)) 0 (pos 0) scores
started f n u scores =
    let zero_more : n ≡ 0 + n = omega arith in
    let none : u ≡ u +ℤ pos 0 = omega (arith, ints) in
    ap (λ m. draw_sum f m u scores) zero_more ∙ ap (λ z. draw_sum f (0 + n) z scores) none ∙ draw-moved f n u 0 (pos 0) scores

module _ {K : Type 0} (cells_of : K → List ℕ) (limit stride drawn : ℕ) (p : ℤ → Bool) where
  met-draws : (others : List ℤ) (behind : List (DrawRow K)) → AreDraws cells_of limit drawn stride others behind → (n : ℕ) (u : ℤ) → met cells_of p drawn stride behind n u ≡ draw_sum (drawn_at p drawn) n u others
  met-draws others behind are n u =
      are.told (λ m v. drawn_at p drawn (m + n) (u +ℤ v)) (λ m v h. elsewhere (once p) drawn (m + n) (u +ℤ v) (λ e. omega (arith, h, e)))
      ∙ sym (started (drawn_at p drawn) n u others)

  pub all-met : (scores others : List ℤ) (front behind : List (DrawRow K)) → AreDraws cells_of limit drawn stride scores front → AreDraws cells_of limit drawn stride others behind
      → rows_draws cells_of (met cells_of p drawn stride behind) 0 stride front ≡ draw_sum (drawn_at p drawn) 0 (pos 0) (scores ++ others)
  all-met scores others front behind first second =
      rows-same cells_of stride (met cells_of p drawn stride behind) (λ n u. draw_sum (drawn_at p drawn) n u others) (met-draws others behind second) 0 front
      ∙ first.told (λ n u. draw_sum (drawn_at p drawn) n u others) above
      ∙ sym (draw-parts (drawn_at p drawn) 0 (pos 0) scores others)
    where
      above : NoneAbove drawn (λ n u. draw_sum (drawn_at p drawn) n u others)
      above n u h = sym (met-draws others behind second n u) ∙ rows-none cells_of stride (λ m v. drawn_at p drawn (m + n) (u +ℤ v)) 0 behind (λ m v l. elsewhere (once p) drawn (m + n) (u +ℤ v) (λ e. omega (arith, h, e)))

  -- the row that makes up the number
  pub met-row : (behind : List (DrawRow K)) (n : ℕ) (u : ℤ) (d : DrawRow K) → n ≤ drawn → drawn - n < length behind → met cells_of p drawn stride behind n u ≡ row_draws cells_of (λ v. once p (u +ℤ v)) stride (get_or behind (drawn - n) d)
  met-row behind n u d h k =
      let row : DrawRow K = get_or behind (drawn - n) d in
      rows-at cells_of stride (λ m v. drawn_at p drawn (m + n) (u +ℤ v)) 0 behind (drawn - n) d k (λ m v l. elsewhere (once p) drawn (m + n) (u +ℤ v) (λ e. l (omega (arith, e, h))))
      ∙ cells-same (λ v. drawn_at p drawn ((0 + (drawn - n)) + n) (u +ℤ v)) (λ v. once p (u +ℤ v)) (λ v. here (once p) drawn ((0 + (drawn - n)) + n) (u +ℤ v) (omega (arith, h))) stride row.lowest (cells_of row.tally)

  -- too many are drawn, or too few are left
  pub met-over : (behind : List (DrawRow K)) (n : ℕ) (u : ℤ) → drawn < n → met cells_of p drawn stride behind n u ≡ 0
  met-over behind n u h = rows-none cells_of stride (λ m v. drawn_at p drawn (m + n) (u +ℤ v)) 0 behind (λ m v l. elsewhere (once p) drawn (m + n) (u +ℤ v) (λ e. omega (arith, h, e)))

  pub met-short : (behind : List (DrawRow K)) (n : ℕ) (u : ℤ) → n ≤ drawn → length behind ≤ drawn - n → met cells_of p drawn stride behind n u ≡ 0
  met-short behind n u h k = rows-past cells_of stride (λ m v. drawn_at p drawn (m + n) (u +ℤ v)) 0 behind (drawn - n) k (λ m v l. elsewhere (once p) drawn (m + n) (u +ℤ v) (λ e. l (omega (arith, e, h))))

  -- the first rows say no more than all
  pub first-within : (f : ℕ → ℤ → ℕ) (n : ℕ) (rows : List (DrawRow K)) (i : ℕ) → rows_draws cells_of f n stride (take i rows) ≤ rows_draws cells_of f n stride rows
  first-within f n rows zero = omega arith
  first-within f n [] (suc i) = omega arith
  first-within f n (row ∷ rows) (suc i) = omega (arith, first-within f (n + 1) rows i)
