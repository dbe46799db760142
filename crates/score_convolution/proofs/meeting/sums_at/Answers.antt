use Rattle.std.proofs.Common.{◌≡◌, ◌-◌, ◌<◌, ℕ, Bool, true, false, cond, get_or, length, ap, subst, sym, ◌∙◌, arith}
use Rattle.std.specs.Prelude.{ℤ, ◌+ℤ◌}
use Rattle.networks.specs.Asked.{asks}
use Rattle.networks.specs.declared.tail_sums.TailSum.{TailSum}
use Rattle.score_convolution.specs.Sides.{is_in, once, sides_for}
use Rattle.score_convolution.specs.DrawRows.{row_draws}
use Rattle.score_convolution.specs.Meetings.{AreFew, met}
use Rattle.score_convolution.specs.declared.rows.DrawRow.{DrawRow}
use Rattle.score_convolution.proofs.BothParts.{met-over, met-row, met-short}
use Rattle.score_convolution.proofs.RowSteps.{at-any, cells-none, cells-same}
use Rattle.score_convolution.proofs.meeting.sums_at.Goals as goal

nothing : (b : Bool) (sum n : ℕ) → sum ≡ 0 → n ≡ 0 → sum ≡ cond b n 0
nothing true sum n e h = e ∙ sym h
nothing false sum n e h = e

pub returns-then-n-drawn : goal.returns-then-n-drawn
returns-then-n-drawn g c t d =
    let cells_of = g.K.Tally.cells in
    let p = is_in (sides_for c.args.sides.now t) in
    let row : DrawRow g.row.K.Denot = get_or c.args.rows.now c.args.n d in
    nothing (asks c.args.tails t) _ _ (ap (λ (s : TailSum). s.sum) (c.none.ensures t))
    (cells-none (met cells_of p c.args.drawn c.args.stride c.args.others.now c.args.n) (λ u. met-over cells_of g.K.Tally.LIMIT c.args.stride c.args.drawn p c.args.others.now c.args.n u c.if-n-drawn.true) c.args.stride row.lowest (cells_of row.tally))

pub returns-then-left-others : goal.returns-then-left-others
returns-then-left-others g c t d =
    let cells_of = g.K.Tally.cells in
    let p = is_in (sides_for c.args.sides.now t) in
    let row : DrawRow g.row.K.Denot = get_or c.args.rows.now c.args.n d in
    nothing (asks c.args.tails t) _ _ (ap (λ (s : TailSum). s.sum) (c.none-then-left-others.ensures t))
    (cells-none (met cells_of p c.args.drawn c.args.stride c.args.others.now c.args.n) (λ u. met-short cells_of g.K.Tally.LIMIT c.args.stride c.args.drawn p c.args.others.now c.args.n u (omega (arith, c.if-n-drawn.false)) (omega (arith, c.if-left-others.true))) c.args.stride row.lowest (cells_of row.tally))

pub returns : goal.returns
returns g c t d =
    let cells_of = g.K.Tally.cells in
    let p = is_in (sides_for c.args.sides.now t) in
    let s : ℕ = c.args.stride in
    let one : DrawRow g.row.K.Denot = c.index-rows-n.result in
    let other : DrawRow g.row.K.Denot = c.index-others-left.result in
    let left : ℕ = c.args.drawn - c.args.n in
    let low : left < length c.args.others.now = omega (arith, c.if-left-others.false) in
    let one_is : one ≡ get_or c.args.rows.now c.args.n d = c.index-rows-n.is ∙ at-any cells_of s c.args.rows.now c.args.n one d c.requires.n in
    let inner : (u : ℤ) → row_draws cells_of (λ v. once p (u +ℤ v)) s other ≡ met cells_of p c.args.drawn s c.args.others.now c.args.n u =
    λ u. ap (row_draws cells_of (λ v. once p (u +ℤ v)) s) (c.index-others-left.is ∙ at-any cells_of s c.args.others.now left other d low) ∙ sym (met-row cells_of g.K.Tally.LIMIT s c.args.drawn p c.args.others.now c.args.n u d (omega (arith, c.if-n-drawn.false)) low) in
    let f : ℤ → ℕ = met cells_of p c.args.drawn s c.args.others.now c.args.n in
    let same = cells-same (λ u. row_draws cells_of (λ v. once p (u +ℤ v)) s other) f inner s one.lowest (cells_of one.tally) ∙ ap (row_draws cells_of f s) one_is in
    rw same at (c.row_pairs.ensures t)

pub row_pairs-requires-clause-few : goal.row_pairs-requires-clause-few
row_pairs-requires-clause-few g c =
    let cells_of = g.K.Tally.cells in
    let limit : ℕ = g.K.Tally.LIMIT in
    let s : ℕ = c.args.stride in
    let one : DrawRow g.row.K.Denot = c.index-rows-n.result in
    let other : DrawRow g.row.K.Denot = c.index-others-left.result in
    let left : ℕ = c.args.drawn - c.args.n in
    let low : left < length c.args.others.now = omega (arith, c.if-left-others.false) in
    let one_is : get_or c.args.rows.now c.args.n one ≡ one = sym c.index-rows-n.is in
    let other_is : get_or c.args.others.now left one ≡ other = sym (c.index-others-left.is ∙ at-any cells_of s c.args.others.now left other one low) in
    subst (λ r. AreFew cells_of limit r other) one_is (subst (λ r. AreFew cells_of limit (get_or c.args.rows.now c.args.n one) r) other_is (c.requires.meet.few c.args.n one c.requires.n (omega (arith, c.if-n-drawn.false)) low))
