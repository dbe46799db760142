use Rattle.std.proofs.Common.{◌≡◌, ◌+◌, ◌<◌, ◌≤◌, ℕ, List, length, Bool, true, false, cond, get_or, take, ap, ◌∙◌, arith}
use Rattle.std.specs.Prelude.{ℤ}
use Rattle.weights.specs.declared.TheConstants.{MAX}
use Rattle.networks.specs.Asked.{asks}
use Rattle.score_convolution.specs.Sides.{is_in, sides_for}
use Rattle.score_convolution.specs.DrawRows.{row_draws, rows_draws}
use Rattle.score_convolution.specs.Meetings.{met}
use Rattle.score_convolution.specs.declared.rows.DrawRow.{DrawRow}
use Rattle.score_convolution.proofs.BothParts.{first-within}
use Rattle.score_convolution.proofs.RowSteps.{a-row, rows-take}
use Rattle.score_convolution.proofs.meeting.meeting.Goals as goal

joined : (b : Bool) (all sum more m n k : ℕ) → all ≡ sum + more → sum ≡ cond b m 0 → more ≡ cond b n 0 → k ≡ m + n → all ≡ cond b k 0
joined true all sum more m n k e s r h = omega (arith, e, s, r, h)
joined false all sum more m n k e s r h = omega (arith, e, s, r)

one-more : {K : Type 0} (cells_of : K → List ℕ) (s : ℕ) (f : ℕ → ℤ → ℕ) (rows : List (DrawRow K)) (n : ℕ) (d : DrawRow K) → n < length rows → rows_draws cells_of f 0 s (take (n + 1) rows) ≡ rows_draws cells_of f 0 s (take n rows) + row_draws cells_of (f n) s (get_or rows n d)
one-more cells_of s f rows n d h =
    let zero_more : 0 + n ≡ n = omega arith in
    rows-take cells_of s f 0 rows n d h ∙ ap (λ k. rows_draws cells_of f 0 s (take n rows) + row_draws cells_of (f k) s (get_or rows n d)) zero_more

pub loop-n-preserved : goal.loop-n-preserved
loop-n-preserved g c t =
    let cells_of = g.K.Tally.cells in
    let s : ℕ = c.args.stride in
    let n : ℕ = c.loop-n.n in
    let rows : List (DrawRow g.row.K.Denot) = c.args.rows.now in
    let f : ℕ → ℤ → ℕ = met cells_of (is_in (sides_for c.args.sides.now t)) c.args.drawn s c.args.others.now in
    let d : DrawRow g.row.K.Denot = a-row rows c.loop-n-test.true in
    joined (asks c.args.tails t) _ _ _ (rows_draws cells_of f 0 s (take n rows)) (row_draws cells_of (f n) s (get_or rows n d)) (rows_draws cells_of f 0 s (take (n + 1) rows))
    (c.sums_of_both-sums.ensures t) (c.loop-n.invariant t) (c.sums_at-more.ensures t d)
    (one-more cells_of s f rows n d c.loop-n-test.true)

-- what is met so far is no more than all
within : (b : Bool) (sum more m n k all : ℕ) → sum ≡ cond b m 0 → more ≡ cond b n 0 → k ≡ m + n → k ≤ all → all ≤ MAX → sum + more ≤ MAX
within true sum more m n k all s r e h l = omega (arith, s, r, e, h, l)
within false sum more m n k all s r e h l = omega (arith, s, r)

pub sums_of_both-sums-requires : goal.sums_of_both-sums-requires
sums_of_both-sums-requires g c t =
    let cells_of = g.K.Tally.cells in
    let s : ℕ = c.args.stride in
    let n : ℕ = c.loop-n.n in
    let rows : List (DrawRow g.row.K.Denot) = c.args.rows.now in
    let p = is_in (sides_for c.args.sides.now t) in
    let f : ℕ → ℤ → ℕ = met cells_of p c.args.drawn s c.args.others.now in
    let d : DrawRow g.row.K.Denot = a-row rows c.loop-n-test.true in
    within (asks c.args.tails t) _ _ (rows_draws cells_of f 0 s (take n rows)) (row_draws cells_of (f n) s (get_or rows n d)) (rows_draws cells_of f 0 s (take (n + 1) rows)) (rows_draws cells_of f 0 s rows)
    (c.loop-n.invariant t) (c.sums_at-more.ensures t d) (one-more cells_of s f rows n d c.loop-n-test.true)
    (first-within cells_of g.K.Tally.LIMIT s c.args.drawn p f 0 rows (n + 1)) (c.requires.meet.fit t)
