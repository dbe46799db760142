use Rattle.std.proofs.Common.{◌≡◌, ◌+◌, ℕ, List, ap, ◌∙◌, arith}
use Rattle.std.specs.Prelude.{ℤ, pos, ◌+ℤ◌}
use Rattle.std.specs.List.{sum}
use Rattle.std.proofs.lemmas.Int.{ints}
use Rattle.node_pool.specs.Nodes.{weighted}
use Rattle.count_arrays.specs.Rows.{IsPoured, row_nodes, stepped}
use Rattle.score_convolution.specs.DrawRows.{number_of}
use Rattle.score_convolution.proofs.RowSteps.{cells-moved, cells-total, cells_draws}
use Rattle.score_convolution.proofs.rows.DrawRow.add.Goals as goal

-- what is poured is there besides
poured-total : (place : ℕ) (from old new : List ℕ) → IsPoured from 1 place 1 old new → sum new ≡ sum old + sum from
poured-total place from old new told = omega (
  arith,
  told (λ k. 1) (pos 0) (pos 0),
  cells-total (pos 0) (pos 0) new,
  cells-total (pos 0) (pos 0) old,
  cells-total (stepped (pos 0) (pos 0) place) (stepped (pos 0) (pos 0) 1) from,
)

poured-told : (place : ℕ) (from old new : List ℕ) → IsPoured from 1 place 1 old new → (g : ℤ → ℕ) (stride : ℕ) (lowest first score : ℤ) → stepped lowest (pos stride) place ≡ first +ℤ score
    → cells_draws g stride lowest new ≡ cells_draws g stride lowest old + cells_draws (λ v. g (v +ℤ score)) stride first from
poured-told place from old new told g stride lowest first score at =
    let f : List ℤ → ℕ = λ k. g (number_of k) in
    let one : stepped (pos 0) (pos stride) 1 ≡ pos stride = omega (arith, ints) in
    let added =
    ap (λ z. weighted f (row_nodes z (stepped (pos 0) (pos stride) 1) from)) at
    ∙ ap (λ z. weighted f (row_nodes (first +ℤ score) z from)) one
    ∙ cells-moved g score stride first from in
    omega (arith, told f lowest (pos stride), added)

pub add-requires-clause-within : goal.add-requires-clause-within
add-requires-clause-within g c = omega (arith, c.requires.row.whole, c.requires.from.whole, c.requires.within)

pub add-requires-clause-fits : goal.add-requires-clause-fits
add-requires-clause-fits g c = omega (arith, c.requires.row.whole, c.requires.from.whole, c.requires.fits)

pub returns-clause-row : goal.returns-clause-row
returns-clause-row g c =
    let cells_of = g.K.Tally.cells in
    record {
      whole = omega (arith, poured-total c.args.place (cells_of c.args.from.now.tally) (cells_of c.args.self.now.tally) (cells_of c.add.new.self) c.in_ok-add.ensures.told, c.requires.row.whole, c.requires.from.whole);
      within = c.requires.within;
      fits = c.requires.fits;
    }

pub returns-clause-told : goal.returns-clause-told
returns-clause-told g c = λ h stride score at.
    let cells_of = g.K.Tally.cells in
    poured-told c.args.place (cells_of c.args.from.now.tally) (cells_of c.args.self.now.tally) (cells_of c.add.new.self) c.in_ok-add.ensures.told h stride c.args.self.now.lowest c.args.from.now.lowest score at
