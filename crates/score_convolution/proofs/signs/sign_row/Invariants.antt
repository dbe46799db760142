use Rattle.std.proofs.Common.{◌≡◌, ◌+◌, ◌≤◌, ◌^◌, ℕ, length, take}
use Rattle.std.specs.Prelude.{ℤ, pos, unsigned_abs}
use Rattle.weights.specs.Numbers.{absolute_sum}
use Rattle.score_convolution.specs.Draws.{draw_sum}
use Rattle.score_convolution.specs.DrawRows.{IsDrawRow, row_draws}
use Rattle.score_convolution.proofs.signs.sign_row.Given as goal

-- the draws of the subjects before this one
abbrev pub invariant-loop-i : goal.invariant-loop-i
invariant-loop-i g l = record {
  within : l.i ≤ length l.scores;
  row : IsDrawRow g.K.Tally.cells g.K.Tally.LIMIT l.row;
  total : l.row.total ≡ 2 ^ l.i;
  small : unsigned_abs l.row.lowest ≤ absolute_sum (take l.i l.scores);
  long : length (g.K.Tally.cells l.row.tally) ≤ absolute_sum (take l.i l.scores) + 1;
  told : (h : ℤ → ℕ) → row_draws g.K.Tally.cells h l.stride l.row ≡ draw_sum (λ n. h) 0 (pos 0) (take l.i l.scores);
}
