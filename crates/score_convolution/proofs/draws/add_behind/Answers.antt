use Rattle.std.proofs.Common.{◌≡◌, ◌+◌, ◌++◌, ◌<◌, ◌≤◌, ℕ, List, length, take, drop, get_or, set, max, ap, ◌∙◌, arith}
use Rattle.std.specs.Prelude.{ℤ, pos, ◌+ℤ◌}
use Rattle.std.specs.List.{AllByRecursion}
use Rattle.std.proofs.lemmas.List.{get_or-set_other, get_or-set_same}
use Rattle.std.proofs.lemmas.Result.{on_ok_weaker}
use Rattle.weights.specs.declared.TheConstants.{MAX}
use Rattle.count_arrays.specs.Rows.{stepped}
use Rattle.score_convolution.specs.DrawRows.{IsDrawRow, row_draws, rows_draws, with_one}
use Rattle.score_convolution.specs.declared.rows.DrawRow.{DrawRow}
use Rattle.score_convolution.proofs.RowSteps.{at-any, each-at, each-set, get-drop, get-take, parts-set, rows-set}
use Rattle.score_convolution.proofs.draws.add_behind.Goals as goal

-- the rows in two parts, and one of the second that is written
module _ {K : Type 0} (cells_of : K → List ℕ) (rows xs ys : List (DrawRow K)) (n : ℕ) (front : xs ≡ take (n + 1) rows) (back : ys ≡ drop (n + 1) rows) (h : n + 1 < length rows) where
  one-is : (x d : DrawRow K) → get_or xs n x ≡ get_or rows n d
  one-is x d = ap (λ zs. get_or zs n x) front ∙ get-take cells_of 0 rows (n + 1) n x (omega arith) ∙ at-any cells_of 0 rows n x d (omega (arith, h))

  two-is : (x d : DrawRow K) → get_or ys 0 x ≡ get_or rows (n + 1) d
  two-is x d = ap (λ zs. get_or zs 0 x) back ∙ get-drop cells_of 0 rows (n + 1) x ∙ at-any cells_of 0 rows (n + 1) x d h

  written : (new : DrawRow K) → xs ++ set ys 0 new ≡ set rows (n + 1) new
  written new = rw (front, back) (parts-set cells_of 0 (n + 1) rows new)

  totals-are : (limit : ℕ) (x y : DrawRow K) → ((d : DrawRow K) → (get_or rows (n + 1) d).total + (get_or rows n d).total ≤ limit) → (get_or ys 0 y).total + (get_or xs n x).total ≤ limit
  totals-are limit x y within = rw (two-is y x, one-is x x) (within x)

  each-is : (limit : ℕ) (new : DrawRow K) → AllByRecursion (IsDrawRow cells_of limit) rows → IsDrawRow cells_of limit new → AllByRecursion (IsDrawRow cells_of limit) (xs ++ set ys 0 new)
  each-is limit new each is = rw (written new) (each-set cells_of 0 (IsDrawRow cells_of limit) rows (n + 1) new is each)

  others-are : (new : DrawRow K) (i : ℕ) (d : DrawRow K) → (i ≡ n + 1 → ⊥) → get_or (xs ++ set ys 0 new) i d ≡ get_or rows i d
  others-are new i d other = ap (λ zs. get_or zs i d) (written new) ∙ get_or-set_other rows (n + 1) i new d other

  new-is : (new d : DrawRow K) → get_or (xs ++ set ys 0 new) (n + 1) d ≡ new
  new-is new d = ap (λ zs. get_or zs (n + 1) d) (written new) ∙ get_or-set_same rows (n + 1) new d h

  total-is : (new x y d : DrawRow K) → new.total ≡ (get_or ys 0 y).total + (get_or xs n x).total → (get_or (xs ++ set ys 0 new) (n + 1) d).total ≡ (get_or rows (n + 1) d).total + (get_or rows n d).total
  total-is new x y d e = ap (λ row. row.total) (new-is new d) ∙ (rw (two-is y d, one-is x d) at e)

  lowest-is : (new y d : DrawRow K) → new.lowest ≡ (get_or ys 0 y).lowest → (get_or (xs ++ set ys 0 new) (n + 1) d).lowest ≡ (get_or rows (n + 1) d).lowest
  lowest-is new y d e = ap (λ row. row.lowest) (new-is new d) ∙ (rw (two-is y d) at e)

  near-is : (place : ℕ) (x y : DrawRow K) → ((d : DrawRow K) → max (length (cells_of (get_or rows (n + 1) d).tally)) (place + length (cells_of (get_or rows n d).tally)) ≤ MAX + 1) → max (length (cells_of (get_or ys 0 y).tally)) (place + length (cells_of (get_or xs n x).tally)) ≤ MAX + 1
  near-is place x y near = rw (two-is y x, one-is x x) (near x)

  reach-is : (new x y : DrawRow K) (place : ℕ) (d : DrawRow K) → length (cells_of new.tally) ≤ max (length (cells_of (get_or ys 0 y).tally)) (place + length (cells_of (get_or xs n x).tally))
      → length (cells_of (get_or (xs ++ set ys 0 new) (n + 1) d).tally) ≤ max (length (cells_of (get_or rows (n + 1) d).tally)) (place + length (cells_of (get_or rows n d).tally))
  reach-is new x y place d le = rw (new-is new d) (rw (two-is y d, one-is x d) at le)

  -- what the row behind says more, all rows do
  told-is : (new x y : DrawRow K) (place : ℕ) (f : ℕ → ℤ → ℕ) (d : DrawRow K) (stride : ℕ) (score : ℤ)
      → (stepped (get_or ys 0 y).lowest (pos stride) place ≡ (get_or xs n x).lowest +ℤ score → row_draws cells_of (f (n + 1)) stride new ≡ row_draws cells_of (f (n + 1)) stride (get_or ys 0 y) + row_draws cells_of (with_one score f n) stride (get_or xs n x))
      → stepped (get_or rows (n + 1) d).lowest (pos stride) place ≡ (get_or rows n d).lowest +ℤ score
      → rows_draws cells_of f 0 stride (xs ++ set ys 0 new) ≡ rows_draws cells_of f 0 stride rows + row_draws cells_of (with_one score f n) stride (get_or rows n d)
  told-is new x y place f d stride score told at =
      let here : row_draws cells_of (f (n + 1)) stride new ≡ row_draws cells_of (f (n + 1)) stride (get_or rows (n + 1) d) + row_draws cells_of (with_one score f n) stride (get_or rows n d) = (rw (two-is y d, one-is x d) at told) at in
      let one : 0 + (n + 1) ≡ n + 1 = omega arith in
      ap (rows_draws cells_of f 0 stride) (written new)
      ∙ rows-set cells_of stride f 0 rows (n + 1) new d (row_draws cells_of (with_one score f n) stride (get_or rows n d)) h (rw one here)

pub add-requires-clause-row : goal.add-requires-clause-row
add-requires-clause-row g c =
    let cells_of = g.K.Tally.cells in
    let s = c.split_at_mut-before in
    rw (two-is cells_of c.args.rows.now s.result.0.now s.result.1.now c.args.n s.ensures.front s.ensures.back c.requires.n c.index-behind-0.result c.index-behind-0.result)
    (each-at cells_of 0 (IsDrawRow cells_of g.K.Tally.LIMIT) c.args.rows.now (c.args.n + 1) c.index-behind-0.result c.requires.n c.requires.rows)

pub add-requires-clause-from : goal.add-requires-clause-from
add-requires-clause-from g c =
    let cells_of = g.K.Tally.cells in
    let s = c.split_at_mut-before in
    rw (one-is cells_of c.args.rows.now s.result.0.now s.result.1.now c.args.n s.ensures.front s.ensures.back c.requires.n c.index-before-n.result c.index-before-n.result)
    (each-at cells_of 0 (IsDrawRow cells_of g.K.Tally.LIMIT) c.args.rows.now c.args.n c.index-before-n.result (omega (arith, c.requires.n)) c.requires.rows)

pub add-requires-clause-within : goal.add-requires-clause-within
add-requires-clause-within g c =
    let s = c.split_at_mut-before in
    totals-are g.K.Tally.cells c.args.rows.now s.result.0.now s.result.1.now c.args.n s.ensures.front s.ensures.back c.requires.n _ c.index-before-n.result c.index-behind-0.result c.requires.within

pub add-requires-clause-fits : goal.add-requires-clause-fits
add-requires-clause-fits g c =
    let s = c.split_at_mut-before in
    totals-are g.K.Tally.cells c.args.rows.now s.result.0.now s.result.1.now c.args.n s.ensures.front s.ensures.back c.requires.n _ c.index-before-n.result c.index-behind-0.result c.requires.fits

pub returns-clause-rows : goal.returns-clause-rows
returns-clause-rows g c =
    let s = c.split_at_mut-before in
    on_ok_weaker c.add.result (each-is g.K.Tally.cells c.args.rows.now s.result.0.now s.result.1.now c.args.n s.ensures.front s.ensures.back c.requires.n g.K.Tally.LIMIT c.add.new.self c.requires.rows) c.add.ensures.row

pub returns-clause-others : goal.returns-clause-others
returns-clause-others g c =
    let s = c.split_at_mut-before in
    on_ok_weaker c.add.result (λ _. others-are g.K.Tally.cells c.args.rows.now s.result.0.now s.result.1.now c.args.n s.ensures.front s.ensures.back c.requires.n c.add.new.self) c.add.ensures.lowest

pub returns-clause-total : goal.returns-clause-total
returns-clause-total g c =
    let s = c.split_at_mut-before in
    on_ok_weaker c.add.result (λ e d. total-is g.K.Tally.cells c.args.rows.now s.result.0.now s.result.1.now c.args.n s.ensures.front s.ensures.back c.requires.n c.add.new.self c.index-before-n.result c.index-behind-0.result d e) c.add.ensures.total

pub returns-clause-lowest : goal.returns-clause-lowest
returns-clause-lowest g c =
    let s = c.split_at_mut-before in
    on_ok_weaker c.add.result (λ e d. lowest-is g.K.Tally.cells c.args.rows.now s.result.0.now s.result.1.now c.args.n s.ensures.front s.ensures.back c.requires.n c.add.new.self c.index-behind-0.result d e) c.add.ensures.lowest

pub add-requires-clause-near : goal.add-requires-clause-near
add-requires-clause-near g c =
    let s = c.split_at_mut-before in
    near-is g.K.Tally.cells c.args.rows.now s.result.0.now s.result.1.now c.args.n s.ensures.front s.ensures.back c.requires.n c.args.place c.index-before-n.result c.index-behind-0.result c.requires.near

pub returns-clause-reach : goal.returns-clause-reach
returns-clause-reach g c =
    let s = c.split_at_mut-before in
    on_ok_weaker c.add.result (λ e d. reach-is g.K.Tally.cells c.args.rows.now s.result.0.now s.result.1.now c.args.n s.ensures.front s.ensures.back c.requires.n c.add.new.self c.index-before-n.result c.index-behind-0.result c.args.place d e) c.add.ensures.long

pub returns-clause-told : goal.returns-clause-told
returns-clause-told g c =
    let s = c.split_at_mut-before in
    on_ok_weaker c.add.result (λ told f d stride score. told-is g.K.Tally.cells c.args.rows.now s.result.0.now s.result.1.now c.args.n s.ensures.front s.ensures.back c.requires.n c.add.new.self c.index-before-n.result c.index-behind-0.result c.args.place f d stride score (told (f (c.args.n + 1)) stride score)) c.add.ensures.told
