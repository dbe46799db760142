use Rattle.std.proofs.Common.{◌≡◌, ◌≤◌, ◌<◌, ℕ, ◌+◌, length, take, get_or}
use Rattle.std.specs.Prelude.{ℤ, pos}
use Rattle.std.specs.List.{AllByRecursion}
use Rattle.score_convolution.specs.DrawRows.{IsDrawRow, IsRowOf, rows_draws, with_one}
use Rattle.score_convolution.specs.declared.rows.DrawRow.{DrawRow}
use Rattle.score_convolution.proofs.draws.add_down.Given as goal

-- the rows from this one on are added to those behind them, and those up to it are as they were
abbrev pub invariant-loop-n : goal.invariant-loop-n
invariant-loop-n g l = record {
  long : length l.rows ≡ length l.initial.rows;
  low : l.n ≤ l.count;
  each : AllByRecursion (IsDrawRow g.K.Tally.cells g.K.Tally.LIMIT) l.rows;
  front : (k : ℕ) (d : DrawRow g.row.K.Denot) → k ≤ l.n → get_or l.rows k d ≡ get_or l.initial.rows k d;
  grown : (k : ℕ) (d : DrawRow g.row.K.Denot) → l.n < k → k ≤ l.count → IsRowOf g.K.Tally.cells g.K.Tally.LIMIT (take (l.i + 1) l.scores) k (get_or l.rows k d);
  behind : (k : ℕ) (d : DrawRow g.row.K.Denot) → l.count < k → get_or l.rows k d ≡ get_or l.initial.rows k d;
  told : (f : ℕ → ℤ → ℕ) → rows_draws g.K.Tally.cells f 0 l.stride l.rows + rows_draws g.K.Tally.cells (with_one (get_or l.scores l.i (pos 0)) f) 0 l.stride (take l.n l.initial.rows) ≡ rows_draws g.K.Tally.cells f 0 l.stride l.initial.rows + rows_draws g.K.Tally.cells (with_one (get_or l.scores l.i (pos 0)) f) 0 l.stride (take l.count l.initial.rows);
}

abbrev pub decreases-loop-n : goal.decreases-loop-n
decreases-loop-n g l = l.n
