use Rattle.std.proofs.Common.{◌≡◌, ◌≤◌, ◌∙◌, refl, sym, ap, length, map, subst, arith}
use Rattle.std.specs.List.{concat, sum}
use Rattle.std.specs.Prelude.{ℕ, List, ℤ}
use Rattle.sample_reader.specs.Data.{block_data_of}
use Rattle.weights.specs.declared.TheConstants.{MAX}
use Rattle.weights.proofs.Centred.{framed, not-wide, total-wide}
use Rattle.block_tests.specs.BlockTests.{BlockTests, block_counts, block_statistic, block_test, blocks_for, bound_of, cells_in, cell_counts, cut, observed_cells}
use Rattle.block_tests.specs.BlockSteps.{ways_of}
use Rattle.block_tests.specs.PreparedSteps.{AreBlocks, AreFitting, IsPrepared, far_of, tests_of}
use Rattle.block_tests.specs.declared.kinds.BlockKind.{BlockKind}
use Rattle.block_tests.proofs.Fitting.{blocks-read, bound-fits, observed-of, sides-are, total-is}
use Rattle.block_tests.proofs.block_test.prepare.Goals as goal

fitting : (tests : BlockTests) → AreBlocks tests → ways_of (block_counts tests) ≤ MAX → AreFitting tests
fitting tests b fits = record { blocks = b; total_fits = omega (arith, total-is tests, fits) }

-- what was ranked, of the values that were read
ranked-blocks : (kind : BlockKind) (n k : ℕ) (read values : List ℤ) (made : List (List ℕ)) → read ≡ values → made ≡ map (cell_counts kind k) (cut k n read) → made ≡ block_counts (tests_of kind n k values)
ranked-blocks kind n k read values made e r = r ∙ ap (λ vs. map (cell_counts kind k) (cut k n vs)) e

ranked-cells : (kind : BlockKind) (n k : ℕ) (read values : List ℤ) (cells : List ℕ) → read ≡ values → cells ≡ concat (map (cells_in kind) (cut k n read)) → cells ≡ observed_cells (tests_of kind n k values)
ranked-cells kind n k read values cells e r = r ∙ ap (λ vs. concat (map (cells_in kind) (cut k n vs))) e

pub returns-in_default : goal.returns-in_default
returns-in_default c =
    let tests : BlockTests = blocks_for c.args.kind (block_data_of c.args.blocks.now) in
    let blocks = ranked-blocks c.args.kind c.args.blocks.now.blocks c.args.blocks.now.treatments c.as_slice.result.now c.args.blocks.now.cells c.in_ok-ranked.ranked.blocks.items c.as_slice.ensures c.in_ok-ranked.ensures.blocks in
    total-wide (block_test tests) (total-is tests) (rw (c.deref.ensures.value ∙ blocks) at c.in_default.ensures)

pub bound_of-bound-requires-clause-whole : goal.bound_of-bound-requires-clause-whole
bound_of-bound-requires-clause-whole c =
    let cells = ranked-cells c.args.kind c.args.blocks.now.blocks c.args.blocks.now.treatments c.as_slice.result.now c.args.blocks.now.cells c.in_ok-ranked.ranked.cells c.as_slice.ensures c.in_ok-ranked.ensures.cells in
    ap length (c.as_slice-cells.ensures ∙ cells) ∙ (observed-of (blocks_for c.args.kind (block_data_of c.args.blocks.now)) (blocks-read c.args.kind c.args.blocks.now c.requires)).long

pub frame_of-frame-requires-clause-whole : goal.frame_of-frame-requires-clause-whole
frame_of-frame-requires-clause-whole c =
    let cells = ranked-cells c.args.kind c.args.blocks.now.blocks c.args.blocks.now.treatments c.as_slice.result.now c.args.blocks.now.cells c.in_ok-ranked.ranked.cells c.as_slice.ensures c.in_ok-ranked.ensures.cells in
    ap length (c.as_slice-cells.ensures ∙ cells) ∙ (observed-of (blocks_for c.args.kind (block_data_of c.args.blocks.now)) (blocks-read c.args.kind c.args.blocks.now c.requires)).long

pub invariant_of-statistic : goal.invariant_of-statistic
invariant_of-statistic c =
    let tests : BlockTests = blocks_for c.args.kind (block_data_of c.args.blocks.now) in
    let blocks = ranked-blocks c.args.kind c.args.blocks.now.blocks c.args.blocks.now.treatments c.as_slice.result.now c.args.blocks.now.cells c.in_ok-ranked.ranked.blocks.items c.as_slice.ensures c.in_ok-ranked.ensures.blocks in
    let ways = rw (c.deref.ensures.value ∙ blocks) at c.in-Some.ensures in
    let cells = c.as_slice-cells.ensures ∙ ranked-cells c.args.kind c.args.blocks.now.blocks c.args.blocks.now.treatments c.as_slice.result.now c.args.blocks.now.cells c.in_ok-ranked.ranked.cells c.as_slice.ensures c.in_ok-ranked.ensures.cells in
    subst (λ (values : List ℤ). IsPrepared (tests_of c.args.kind c.args.blocks.now.blocks c.args.blocks.now.treatments values) c.in_ok-ranked.ranked.blocks.items c.in_ok-lengths.lengths c.bound_of-bound.result) (sym c.in_ok-copy.ensures)
    (record {
      fitting = fitting tests (blocks-read c.args.kind c.args.blocks.now c.requires) ways.0;
      blocks_are = blocks;
      lengths_are = ap (map sum) (sym (c.deref-2.ensures.value ∙ blocks)) ∙ c.in_ok-lengths.ensures;
      bound_is = c.bound_of-bound.ensures ∙ ap (bound_of c.args.kind c.args.blocks.now.blocks c.args.blocks.now.treatments) cells;
    })

pub of-requires : goal.of-requires
of-requires c =
    let tests : BlockTests = blocks_for c.args.kind (block_data_of c.args.blocks.now) in
    let blocks = ranked-blocks c.args.kind c.args.blocks.now.blocks c.args.blocks.now.treatments c.as_slice.result.now c.args.blocks.now.cells c.in_ok-ranked.ranked.blocks.items c.as_slice.ensures c.in_ok-ranked.ensures.blocks in
    let ways = rw (c.deref.ensures.value ∙ blocks) at c.in-Some.ensures in
    let cells = c.as_slice-cells.ensures ∙ ranked-cells c.args.kind c.args.blocks.now.blocks c.args.blocks.now.treatments c.as_slice.result.now c.args.blocks.now.cells c.in_ok-ranked.ranked.cells c.as_slice.ensures c.in_ok-ranked.ensures.cells in
    let sides = sides-are tests.kind tests.blocks.blocks tests.blocks.treatments in
    rw (c.in_ok-copy.ensures, c.frame_of-frame.ensures, cells) (framed _ _ (block_test tests) _ sides refl refl (ways.1 ∙ sym (total-is tests)) (ap (λ s. far_of s (block_statistic tests.kind tests.blocks.blocks tests.blocks.treatments (observed_cells tests))) sides))

pub returns : goal.returns
returns c =
    let tests : BlockTests = blocks_for c.args.kind (block_data_of c.args.blocks.now) in
    let blocks = ranked-blocks c.args.kind c.args.blocks.now.blocks c.args.blocks.now.treatments c.as_slice.result.now c.args.blocks.now.cells c.in_ok-ranked.ranked.blocks.items c.as_slice.ensures c.in_ok-ranked.ensures.blocks in
    let ways = rw (c.deref.ensures.value ∙ blocks) at c.in-Some.ensures in
    let fit : AreFitting tests = fitting tests (blocks-read c.args.kind c.args.blocks.now c.requires) ways.0 in
    (rw (c.of.ensures, c.in_ok-copy.ensures) refl, not-wide (block_test tests) refl fit.total_fits (bound-fits tests fit))
