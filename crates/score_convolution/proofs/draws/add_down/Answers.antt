use Rattle.std.proofs.Common.{◌≡◌, ◌+◌, ◌-◌, ◌<◌, ◌≤◌, ℕ, zero, suc, List, length, take, get_or, ◌∙◌, arith, rules, FitsSigned}
use Rattle.std.specs.Prelude.{ℤ, pos, ◌+ℤ◌, ◌-ℤ◌, unsigned_abs}
use Rattle.std.proofs.lemmas.Int.{to_z-of_z}
use mir.Syntax.{w128}
use Rattle.count_arrays.specs.Rows.{stepped}
use Rattle.score_convolution.specs.DrawRows.{IsDrawRow, IsRowOf}
use Rattle.score_convolution.specs.declared.rows.DrawRow.{DrawRow}
use Rattle.score_convolution.proofs.RowSteps.{a-row, down-told, each-at}
use Rattle.score_convolution.proofs.RowsOf.{grown-down, in-place, near-apart, nobody-still, reach-fits, subjects-apart, totals-within}
use Rattle.score_convolution.proofs.draws.add_down.Goals as goal

module _ {K : Type 0} (cells_of : K → List ℕ) (limit : ℕ) (scores : List ℤ) (i n count : ℕ) (was rows : List (DrawRow K)) where
  -- rows as they were
  still : n ≤ count → ((k : ℕ) (d : DrawRow K) → k ≤ n → get_or rows k d ≡ get_or was k d) → ((k : ℕ) (d : DrawRow K) → k ≤ count → IsRowOf cells_of limit scores k (get_or was k d))
      → (k : ℕ) (d : DrawRow K) → k ≤ n → IsRowOf cells_of limit scores k (get_or rows k d)
  still low front before k d h = rw (front k d h) (before k d (omega (arith, low, h)))

  -- none is still to be added to the one behind it
  all-grown : n ≤ 0 → ((k : ℕ) (d : DrawRow K) → k ≤ n → IsRowOf cells_of limit (take i scores) k (get_or rows k d)) → ((k : ℕ) (d : DrawRow K) → n < k → k ≤ count → IsRowOf cells_of limit (take (i + 1) scores) k (get_or rows k d))
      → (k : ℕ) (d : DrawRow K) → k ≤ count → IsRowOf cells_of limit (take (i + 1) scores) k (get_or rows k d)
  all-grown none front grown zero d h = nobody-still cells_of limit scores i (get_or rows 0 d) (front 0 d (omega arith))
  all-grown none front grown (suc k) d h = grown (suc k) d (omega (arith, none)) h

pub place_between-place-requires-clause-apart : goal.place_between-place-requires-clause-apart
place_between-place-requires-clause-apart g c =
    let scores : List ℤ = c.args.scores.now in
    let j : ℕ = c.loop-n.n - 1 in
    let low : j < length scores = omega (arith, c.loop-n.invariant.low, c.requires.few, c.requires.i) in
    let fits : FitsSigned w128 (get_or scores c.args.i (pos 0)) = search rules in
    let fit : FitsSigned w128 (get_or scores j (pos 0)) = search rules in
    rw (to_z-of_z w128 (get_or scores c.args.i (pos 0)) fits, to_z-of_z w128 (get_or scores j (pos 0)) fit)
    (subjects-apart c.args.stride scores c.requires.subjects j c.args.i low c.requires.i)

pub add_behind-requires-clause-within : goal.add_behind-requires-clause-within
add_behind-requires-clause-within g c = λ d.
    let cells_of = g.K.Tally.cells in
    let i = c.loop-n.invariant in
    let j : ℕ = c.loop-n.n - 1 in
    let next : c.loop-n.n ≡ j + 1 = omega (arith, c.loop-n-test.true) in
    let same = still cells_of g.K.Tally.LIMIT (take c.args.i c.args.scores.now) c.args.i c.loop-n.n c.args.count c.args.rows.now c.loop-n.rows i.low i.front c.requires.before in
    totals-within cells_of g.K.Tally.LIMIT _ c.args.count c.args.scores.now c.args.i j (get_or c.loop-n.rows j d) (get_or c.loop-n.rows (j + 1) d) c.requires.counted.within c.requires.i (omega (arith, next, i.low)) (same j d (omega (arith, next))) (same (j + 1) d (omega (arith, next)))

pub add_behind-requires-clause-fits : goal.add_behind-requires-clause-fits
add_behind-requires-clause-fits g c = λ d.
    let cells_of = g.K.Tally.cells in
    let i = c.loop-n.invariant in
    let j : ℕ = c.loop-n.n - 1 in
    let next : c.loop-n.n ≡ j + 1 = omega (arith, c.loop-n-test.true) in
    let same = still cells_of g.K.Tally.LIMIT (take c.args.i c.args.scores.now) c.args.i c.loop-n.n c.args.count c.args.rows.now c.loop-n.rows i.low i.front c.requires.before in
    totals-within cells_of g.K.Tally.LIMIT _ c.args.count c.args.scores.now c.args.i j (get_or c.loop-n.rows j d) (get_or c.loop-n.rows (j + 1) d) c.requires.counted.fits c.requires.i (omega (arith, next, i.low)) (same j d (omega (arith, next))) (same (j + 1) d (omega (arith, next)))

pub add_behind-requires-clause-near : goal.add_behind-requires-clause-near
add_behind-requires-clause-near g c = λ d.
    let cells_of = g.K.Tally.cells in
    let i = c.loop-n.invariant in
    let scores : List ℤ = c.args.scores.now in
    let j : ℕ = c.loop-n.n - 1 in
    let next : c.loop-n.n ≡ j + 1 = omega (arith, c.loop-n-test.true) in
    let few : j < c.args.i = omega (arith, next, i.low, c.requires.few) in
    let same = still cells_of g.K.Tally.LIMIT (take c.args.i scores) c.args.i c.loop-n.n c.args.count c.args.rows.now c.loop-n.rows i.low i.front c.requires.before in
    let fits : FitsSigned w128 (get_or scores c.args.i (pos 0)) = search rules in
    let fit : FitsSigned w128 (get_or scores j (pos 0)) = search rules in
    let near : c.place_between-place.result ≤ unsigned_abs (get_or scores c.args.i (pos 0) -ℤ get_or scores j (pos 0)) = rw (to_z-of_z w128 (get_or scores c.args.i (pos 0)) fits, to_z-of_z w128 (get_or scores j (pos 0)) fit) at c.place_between-place.ensures.near in
    reach-fits scores c.args.i j (length (cells_of (get_or c.loop-n.rows j d).tally)) (length (cells_of (get_or c.loop-n.rows (j + 1) d).tally)) c.place_between-place.result c.requires.i few c.requires.subjects.near (omega (arith, near, near-apart scores c.args.i j c.requires.i few)) (same j d (omega (arith, next))).reach (same (j + 1) d (omega (arith, next))).reach

pub loop-n-preserved : goal.loop-n-preserved
loop-n-preserved g c =
    let cells_of = g.K.Tally.cells in
    let limit = g.K.Tally.LIMIT in
    let i = c.loop-n.invariant in
    let was : List (DrawRow g.row.K.Denot) = c.args.rows.now in
    let rows : List (DrawRow g.row.K.Denot) = c.loop-n.rows in
    let new : List (DrawRow g.row.K.Denot) = c.add_behind.new.rows in
    let scores : List ℤ = c.args.scores.now in
    let j : ℕ = c.loop-n.n - 1 in
    let s : ℕ = c.args.stride in
    let next : c.loop-n.n ≡ j + 1 = omega (arith, c.loop-n-test.true) in
    let few : j < c.args.i = omega (arith, next, i.low, c.requires.few) in
    let same = still cells_of limit (take c.args.i scores) c.args.i c.loop-n.n c.args.count was rows i.low i.front c.requires.before in
    let one : (d : DrawRow g.row.K.Denot) → IsRowOf cells_of limit (take c.args.i scores) j (get_or rows j d) = λ d. same j d (omega (arith, next)) in
    let two : (d : DrawRow g.row.K.Denot) → IsRowOf cells_of limit (take c.args.i scores) (j + 1) (get_or rows (j + 1) d) = λ d. same (j + 1) d (omega (arith, next)) in
    let fits : FitsSigned w128 (get_or scores c.args.i (pos 0)) = search rules in
    let fit : FitsSigned w128 (get_or scores j (pos 0)) = search rules in
    let near : c.place_between-place.result ≤ unsigned_abs (get_or scores c.args.i (pos 0) -ℤ get_or scores j (pos 0)) = rw (to_z-of_z w128 (get_or scores c.args.i (pos 0)) fits, to_z-of_z w128 (get_or scores j (pos 0)) fit) at c.place_between-place.ensures.near in
    record {
      long = c.add_behind.ensures.long ∙ i.long;
      low = omega (arith, i.low);
      each = c.in_ok-add_behind.ensures.rows;
      front = λ k d h. c.in_ok-add_behind.ensures.others k d (λ e. omega (arith, e, h, next)) ∙ i.front k d (omega (arith, h, next));
      grown = grown-down cells_of limit scores c.args.i j c.args.count rows new c.requires.i few one two
          (λ d. each-at cells_of s (IsDrawRow cells_of limit) new (j + 1) d (omega (arith, c.add_behind.ensures.long, i.long, c.requires.count, next, i.low)) c.in_ok-add_behind.ensures.rows)
          c.in_ok-add_behind.ensures.total
          c.in_ok-add_behind.ensures.lowest
          c.place_between-place.result
          (omega (arith, near, near-apart scores c.args.i j c.requires.i few))
          c.in_ok-add_behind.ensures.reach
          c.in_ok-add_behind.ensures.others
          (λ k d h. i.grown k d (omega (arith, h, next)));
      behind = λ k d h. c.in_ok-add_behind.ensures.others k d (λ e. omega (arith, e, h, next, i.low)) ∙ i.behind k d h;
      told = λ f.
          let d : DrawRow g.row.K.Denot = a-row was c.requires.count in
          let score : ℤ = get_or scores c.args.i (pos 0) in
          let nth : ℤ = get_or scores j (pos 0) in
          let place : (lowest : ℤ) → stepped lowest (pos s) c.place_between-place.result ≡ lowest +ℤ (score -ℤ nth) = rw (to_z-of_z w128 score fits, to_z-of_z w128 nth fit) at c.place_between-place.ensures.place in
          down-told cells_of s f score was rows new c.loop-n.n j c.args.count d next (omega (arith, next, i.low, c.requires.count)) (i.front j d (omega (arith, next)))
          (c.in_ok-add_behind.ensures.told f d s score (place (get_or rows (j + 1) d).lowest ∙ in-place cells_of limit scores c.args.i j (get_or rows j d) (get_or rows (j + 1) d) c.requires.i few (one d) (two d)))
          (i.told f);
    }

pub returns-clause-after : goal.returns-clause-after
returns-clause-after g c =
    let cells_of = g.K.Tally.cells in
    let limit = g.K.Tally.LIMIT in
    let i = c.loop-n.invariant in
    let same = still cells_of limit (take c.args.i c.args.scores.now) c.args.i c.loop-n.n c.args.count c.args.rows.now c.loop-n.rows i.low i.front c.requires.before in
    all-grown cells_of limit c.args.scores.now c.args.i c.loop-n.n c.args.count c.args.rows.now c.loop-n.rows c.loop-n-test.false same i.grown
