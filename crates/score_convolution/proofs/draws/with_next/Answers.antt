use Rattle.std.proofs.Common.{◌≡◌, ◌+◌, ◌-◌, ◌<◌, ℕ, List, length, take, get_or, min, subst, ap, sym, ◌∙◌, arith, rules, FitsSigned}
use Rattle.std.specs.Prelude.{ℤ, pos, ◌+ℤ◌}
use Rattle.std.specs.List.{AllByRecursion}
use Rattle.std.proofs.lemmas.Int.{to_z-of_z}
use mir.Syntax.{w128}
use Rattle.score_convolution.specs.DrawRows.{IsDrawRow, IsRowOf, row_draws, rows_draws, with_one}
use Rattle.score_convolution.specs.declared.rows.DrawRow.{DrawRow}
use Rattle.score_convolution.proofs.RowSteps.{a-row, each-more, next-full, next-pushed}
use Rattle.score_convolution.proofs.RowsOf.{all-drawn, each-from, last-all, last-is, next-is, row-small}
use Rattle.score_convolution.proofs.draws.with_next.Goals as goal

one-less : (n m k : ℕ) → m ≡ n → n ≡ k + 1 → n ≡ (m - 1) + 1
one-less n m k e h = omega (arith, e, h)

-- there may be more
pub with-requires-clause-fits : goal.with-requires-clause-fits
with-requires-clause-fits g c =
    let cells_of = g.K.Tally.cells in
    let rows : List (DrawRow g.row.K.Denot) = c.args.rows.now.items in
    let scores : List ℤ = c.args.scores.now in
    let last : ℕ = c.len-last.result - 1 in
    let long : length rows ≡ last + 1 = one-less (length rows) c.len-last.result _ (c.len-last.ensures ∙ c.args.rows.now.ok.0) c.requires.rows.long in
    let row : DrawRow g.row.K.Denot = c.index.result.now in
    let fits : FitsSigned w128 (get_or scores c.args.i (pos 0)) = search rules in
    rw (to_z-of_z w128 (get_or scores c.args.i (pos 0)) fits)
    (row-small cells_of g.K.Tally.LIMIT scores c.args.i row c.requires.i (last-all cells_of g.K.Tally.LIMIT c.args.most scores c.args.i last rows row row c.requires.i c.requires.rows long c.if-last-most.false c.index.ensures) c.requires.small)

pub returns-clause-rows : goal.returns-clause-rows
returns-clause-rows g c =
    let cells_of = g.K.Tally.cells in
    let P : DrawRow g.row.K.Denot → Type 0 = IsDrawRow cells_of g.K.Tally.LIMIT in
    let rows : List (DrawRow g.row.K.Denot) = c.args.rows.now.items in
    subst (AllByRecursion P) (sym c.in_ok-push.ensures.items)
    (each-more cells_of 0 P rows c.in_ok-row.row c.in_ok-row.ensures.row (each-from cells_of g.K.Tally.LIMIT P rows (λ n d h. (c.requires.rows.each n d h).row_is)))

pub returns-clause-next : goal.returns-clause-next
returns-clause-next g c =
    let cells_of = g.K.Tally.cells in
    let limit = g.K.Tally.LIMIT in
    let rows : List (DrawRow g.row.K.Denot) = c.args.rows.now.items in
    let scores : List ℤ = c.args.scores.now in
    let score : ℤ = get_or scores c.args.i (pos 0) in
    let last : ℕ = c.len-last.result - 1 in
    let long : length rows ≡ last + 1 = one-less (length rows) c.len-last.result _ (c.len-last.ensures ∙ c.args.rows.now.ok.0) c.requires.rows.long in
    let row : DrawRow g.row.K.Denot = c.index.result.now in
    let fits : FitsSigned w128 score = search rules in
    let lowest : c.in_ok-row.row.lowest ≡ row.lowest +ℤ score = rw (to_z-of_z w128 score fits) at c.in_ok-row.ensures.lowest in
    let is = last-all cells_of limit c.args.most scores c.args.i last rows row row c.requires.i c.requires.rows long c.if-last-most.false c.index.ensures in
    let most = last-is cells_of limit c.args.most scores c.args.i last rows c.requires.i c.requires.rows long in
    let next = all-drawn cells_of limit scores c.args.i row c.in_ok-row.row c.requires.i is c.in_ok-row.ensures.row c.in_ok-row.ensures.as_many lowest c.in_ok-row.ensures.long in
    let Q : List (DrawRow g.row.K.Denot) → Type 0 = λ xs. (n : ℕ) (d : DrawRow g.row.K.Denot) → min c.args.most c.args.i < n → n < length xs → IsRowOf cells_of limit (take (c.args.i + 1) scores) n (get_or xs n d) in
    subst Q (sym c.in_ok-push.ensures.items)
    (λ n d h. next-is cells_of limit scores c.args.i rows c.in_ok-row.row (omega (arith, long, most, c.if-last-most.false)) next n d (omega (arith, h, most, c.if-last-most.false)))

pub returns-clause-told : goal.returns-clause-told
returns-clause-told g c = λ f stride none.
    let cells_of = g.K.Tally.cells in
    let rows : List (DrawRow g.row.K.Denot) = c.args.rows.now.items in
    let score : ℤ = get_or c.args.scores.now c.args.i (pos 0) in
    let last : ℕ = c.len-last.result - 1 in
    let long : length rows ≡ last + 1 = one-less (length rows) c.len-last.result _ (c.len-last.ensures ∙ c.args.rows.now.ok.0) c.requires.rows.long in
    let row : DrawRow g.row.K.Denot = c.index.result.now in
    let fits : FitsSigned w128 score = search rules in
    let told : (h : ℤ → ℕ) → row_draws cells_of h stride c.in_ok-row.row ≡ row_draws cells_of (λ v. h (v +ℤ score)) stride (get_or rows last row) =
    λ h. (rw (to_z-of_z w128 score fits) at (c.in_ok-row.ensures.told h stride)) ∙ ap (row_draws cells_of (λ v. h (v +ℤ score)) stride) c.index.ensures in
    subst (λ xs. rows_draws cells_of f 0 stride xs + rows_draws cells_of (with_one score f) 0 stride (take last xs) ≡ rows_draws cells_of f 0 stride rows + rows_draws cells_of (with_one score f) 0 stride rows) (sym c.in_ok-push.ensures.items)
    (next-pushed cells_of stride f score rows last c.in_ok-row.row row long told)

-- there are as many as there may be
pub returns-then-last-most-clause-rows : goal.returns-then-last-most-clause-rows
returns-then-last-most-clause-rows g c =
    let cells_of = g.K.Tally.cells in
    let rows : List (DrawRow g.row.K.Denot) = c.args.rows.now.items in
    each-from cells_of g.K.Tally.LIMIT (IsDrawRow cells_of g.K.Tally.LIMIT) rows (λ n d h. (c.requires.rows.each n d h).row_is)

pub returns-then-last-most-clause-told : goal.returns-then-last-most-clause-told
returns-then-last-most-clause-told g c = λ f stride none.
    let rows : List (DrawRow g.row.K.Denot) = c.args.rows.now.items in
    let long : length rows ≡ (c.len-last.result - 1) + 1 = one-less (length rows) c.len-last.result _ (c.len-last.ensures ∙ c.args.rows.now.ok.0) c.requires.rows.long in
    let some : 0 < length rows = omega (arith, long) in
    next-full g.K.Tally.cells stride f (get_or c.args.scores.now c.args.i (pos 0)) c.args.most rows (c.len-last.result - 1) (a-row rows some) long c.if-last-most.true none
