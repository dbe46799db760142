-- Draws of one part of the subjects, with those of the other.
use Rattle.std.specs.Prelude.{ℕ, ℤ, ◌+◌, ◌-◌, ◌*◌, ◌+ℤ◌, ◌≤◌, List, get_or, length}
use Rattle.std.specs.Prelude.{◌<◌, Bool, cond, nat_eq, unsigned_abs}
use Rattle.weights.specs.declared.TheConstants.{MAX}
use Rattle.weights.specs.declared.tails.Tail.{Tail}
use Rattle.score_convolution.specs.Sides.{is_in, once, sides_for}
use Rattle.score_convolution.specs.declared.sides.TailSides.{TailSides}
use Rattle.score_convolution.specs.DrawRows.{IsDrawRow, row_draws, rows_draws}
use Rattle.score_convolution.specs.declared.rows.DrawRow.{DrawRow}

-- what g says of the sums of the pairs of a draw of each row
abbrev pub pair_draws : {K : Type 0} → (K → List ℕ) → (ℤ → ℕ) → ℕ → DrawRow K → DrawRow K → ℕ
pair_draws cells_of g stride one other =
    row_draws cells_of (λ u. row_draws cells_of (λ v. g (u +ℤ v)) stride other) stride one

-- two rows whose pairs can be counted
pub record AreFew {K : Type 0} (cells_of : K → List ℕ) (limit : ℕ)
    (one other : DrawRow K) : Type 0 where
  pub first : IsDrawRow cells_of limit one
  pub second : IsDrawRow cells_of limit other
  pub fits : one.total * other.total ≤ MAX
  pub small : unsigned_abs one.lowest + unsigned_abs other.lowest ≤ MAX

-- 1 for a draw of so many subjects whose sum passes
abbrev pub drawn_at : (ℤ → Bool) → ℕ → ℕ → ℤ → ℕ
drawn_at p drawn n v = cond (nat_eq n drawn) (once p v) 0

-- how many draws of the other part make n subjects, whose scores sum to u, such a draw
abbrev pub met : {K : Type 0} → (K → List ℕ) → (ℤ → Bool) → ℕ → ℕ → List (DrawRow K) → ℕ → ℤ → ℕ
met cells_of p drawn stride others n u =
    rows_draws cells_of (λ m v. drawn_at p drawn (m + n) (u +ℤ v)) 0 stride others

-- rows whose pairs with the rows that make up the number can be counted, and all of these pairs
pub record MayMeet {K : Type 0} (cells_of : K → List ℕ) (limit drawn stride : ℕ) (sides : TailSides)
    (rows others : List (DrawRow K)) : Type 0 where
  pub few : (n : ℕ) (d : DrawRow K) → n < length rows → n ≤ drawn → drawn - n < length others
      → AreFew cells_of limit (get_or rows n d) (get_or others (drawn - n) d)
  pub fit : (t : Tail) → rows_draws cells_of
      (met cells_of (is_in (sides_for sides t)) drawn stride others) 0 stride rows ≤ MAX
