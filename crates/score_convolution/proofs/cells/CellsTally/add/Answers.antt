use Rattle.std.proofs.Common.{◌≡◌, ℕ, List, length, map, ap, sym, ◌∙◌, arith}
use Rattle.std.specs.Prelude.{ℤ, pos}
use Rattle.std.specs.List.{sum}
use Rattle.std.proofs.lemmas.List.{length-map, with_items_is}
use Rattle.node_pool.specs.Nodes.{weighted}
use Rattle.count_arrays.specs.Rows.{row_nodes, stepped}
use Rattle.score_convolution.proofs.RowSteps.{cells-total}
use Rattle.score_convolution.proofs.cells.CellsTally.add.Goals as goal

-- cells of the same weight in all
as-much : (xs ys : List ℕ) → ((f : List ℤ → ℕ) (lowest stride : ℤ) → weighted f (row_nodes lowest stride xs) ≡ weighted f (row_nodes lowest stride ys)) → sum xs ≡ sum ys
as-much xs ys same = sym (cells-total (pos 0) (pos 0) xs) ∙ same (λ k. 1) (pos 0) (pos 0) ∙ cells-total (pos 0) (pos 0) ys

pub pour-requires-clause-limit : goal.pour-requires-clause-limit
pour-requires-clause-limit g c =
    let num = g.C.Count.number in
    let into = ap (λ xs. sum (map num xs)) c.as_mut_slice.ensures.value in
    let was = as-much (map num c.reach.new.cells.items) (map num c.args.self.now.counts.items) c.in_ok-reach.ensures.same in
    let from = ap (λ xs. sum (map num xs)) c.deref.ensures.value in
    omega (arith, into, was, from, c.requires.within)

pub pour-requires-clause-fits : goal.pour-requires-clause-fits
pour-requires-clause-fits g c =
    let from = ap (λ xs. sum (map g.C.Count.number xs)) c.deref.ensures.value in
    omega (arith, from, c.requires.fits)

pub returns-clause-told : goal.returns-clause-told
returns-clause-told g c = λ f lowest stride.
    let num = g.C.Count.number in
    let written = with_items_is c.reach.new.cells c.pour.new.into (c.pour.ensures.long ∙ ap length c.as_mut_slice.ensures.value ∙ sym c.reach.new.cells.ok.0) in
    let now = ap (λ xs. weighted f (row_nodes lowest stride (map num xs))) written in
    let into = ap (λ xs. weighted f (row_nodes lowest stride (map num xs))) c.as_mut_slice.ensures.value ∙ c.in_ok-reach.ensures.same f lowest stride in
    let added = ap (λ xs. weighted f (row_nodes (stepped lowest stride c.in-Ok.place) (stepped (pos 0) stride 1) (map num xs))) c.deref.ensures.value ∙ ap (λ p. weighted f (row_nodes (stepped lowest stride p) (stepped (pos 0) stride 1) (map num c.args.from.now.counts.items))) c.in-Ok.ensures.1 in
    omega (arith, now, c.pour.ensures.told f lowest stride, into, added)

pub returns-clause-long : goal.returns-clause-long
returns-clause-long g c =
    let num = g.C.Count.number in
    let written = with_items_is c.reach.new.cells c.pour.new.into (c.pour.ensures.long ∙ ap length c.as_mut_slice.ensures.value ∙ sym c.reach.new.cells.ok.0) in
    omega (
      arith,
      ap (λ xs. length (map num xs)) written,
      length-map c.pour.new.into num,
      length-map c.args.self.now.counts.items num,
      length-map c.args.from.now.counts.items num,
      c.pour.ensures.long,
      ap length c.as_mut_slice.ensures.value,
      c.in_ok-reach.ensures.long,
      c.in-Some.ensures.1,
      c.in-Ok.ensures.1,
      c.len.ensures,
      c.args.from.now.counts.ok.0,
    )
