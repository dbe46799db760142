use Rattle.std.proofs.Common.{◌≡◌, ◌∙◌, ◌≤◌, ℕ, List, map, ap, sym, subst}
use Rattle.std.specs.List.{sum, sum_by}
use Rattle.weights.specs.declared.TheConstants.{MAX}
use Rattle.weights.specs.Frames.{IsFrameOf}
use Rattle.strata_cells.specs.declared.stratum.Stratum.{Stratum}
use Rattle.strata_cells.specs.Strata.{row_counts, size, strata_of}
use Rattle.stratified_tests.specs.StrataTests.{data_of, stratified_test}
use Rattle.stratified_tests.specs.StrataSteps.{AreMade, strata_total}
use Rattle.weights.proofs.Centred.{bound-wide, not-wide, past-limit, total-wide}
use Rattle.strata_cells.proofs.StrataReads.{strata-few, strata-small}
use Rattle.stratified_tests.proofs.FittingStrata.{framed-at, multiple-wide}
use Rattle.stratified_tests.proofs.StrataLaws.{total-is}
use Rattle.stratified_tests.proofs.strata_test.prepared.Goals as goal

pub strata_total-requires-clause-small : goal.strata_total-requires-clause-small
strata_total-requires-clause-small c = rw (c.as_slice-2.ensures ∙ c.in_ok-tables.ensures ∙ ap strata_of c.as_slice.ensures) (strata-small c.args.strata.now.cells c.args.strata.now.in_range)

pub returns-in_default : goal.returns-in_default
returns-in_default c =
    let cells : List ℕ = c.args.strata.now.cells in
    let ss : List Stratum = strata_of cells in
    total-wide (stratified_test c.args.odds ss) (total-is c.args.odds ss) (rw (c.as_slice-2.ensures ∙ c.in_ok-tables.ensures ∙ ap strata_of c.as_slice.ensures) at c.in_default.ensures)

pub multiple_of-requires : goal.multiple_of-requires
multiple_of-requires c = rw (c.as_slice-3.ensures ∙ c.in_ok-tables.ensures ∙ ap strata_of c.as_slice.ensures) (strata-small c.args.strata.now.cells c.args.strata.now.in_range)

pub returns-in_default-multiple_of : goal.returns-in_default-multiple_of
returns-in_default-multiple_of c =
    let cells : List ℕ = c.args.strata.now.cells in
    let ss : List Stratum = strata_of cells in
    let total : strata_total c.args.odds ss ≤ MAX = (rw (c.as_slice-2.ensures ∙ c.in_ok-tables.ensures ∙ ap strata_of c.as_slice.ensures) at c.in-Some.ensures).0 in
    bound-wide (stratified_test c.args.odds ss) (total-is c.args.odds ss) total (past-limit _ (multiple-wide ss (rw (c.as_slice-3.ensures ∙ c.in_ok-tables.ensures ∙ ap strata_of c.as_slice.ensures) at c.in_default-multiple_of.ensures)))

pub subjects-requires-clause-small : goal.subjects-requires-clause-small
subjects-requires-clause-small c = rw (c.as_slice-4.ensures ∙ c.in_ok-tables.ensures ∙ ap strata_of c.as_slice.ensures) (strata-small c.args.strata.now.cells c.args.strata.now.in_range)

pub subjects-requires-clause-few : goal.subjects-requires-clause-few
subjects-requires-clause-few c = rw (c.as_slice-4.ensures ∙ c.in_ok-tables.ensures ∙ ap strata_of c.as_slice.ensures) (strata-few c.args.strata.now.cells c.args.strata.now.few_enough)

pub returns-in_default-bounded_product : goal.returns-in_default-bounded_product
returns-in_default-bounded_product c =
    let cells : List ℕ = c.args.strata.now.cells in
    let ss : List Stratum = strata_of cells in
    let total : strata_total c.args.odds ss ≤ MAX = (rw (c.as_slice-2.ensures ∙ c.in_ok-tables.ensures ∙ ap strata_of c.as_slice.ensures) at c.in-Some.ensures).0 in
    let multiple = (rw (c.as_slice-3.ensures ∙ c.in_ok-tables.ensures ∙ ap strata_of c.as_slice.ensures) at c.in-Some-multiple_of.ensures).1 in
    let all : c.subjects.result ≡ sum_by size ss = rw (c.as_slice-4.ensures ∙ c.in_ok-tables.ensures ∙ ap strata_of c.as_slice.ensures) at c.subjects.ensures in
    bound-wide (stratified_test c.args.odds ss) (total-is c.args.odds ss) total (past-limit _ (rw (multiple, all) at c.in_default-bounded_product.ensures))

pub frame_of-frame-requires-clause-small : goal.frame_of-frame-requires-clause-small
frame_of-frame-requires-clause-small c = rw (c.as_slice-5.ensures ∙ c.in_ok-tables.ensures ∙ ap strata_of c.as_slice.ensures) (strata-small c.args.strata.now.cells c.args.strata.now.in_range)

pub frame_of-frame-requires-clause-few : goal.frame_of-frame-requires-clause-few
frame_of-frame-requires-clause-few c = rw (c.as_slice-5.ensures ∙ c.in_ok-tables.ensures ∙ ap strata_of c.as_slice.ensures) (strata-few c.args.strata.now.cells c.args.strata.now.few_enough)

pub frame_of-frame-requires-clause-most : goal.frame_of-frame-requires-clause-most
frame_of-frame-requires-clause-most c =
    let told = c.in-Some-multiple_of.ensures in
    rw told.1 told.0

pub invariant_of-result : goal.invariant_of-result
invariant_of-result c =
    let cells : List ℕ = c.args.strata.now.cells in
    let ss : List Stratum = strata_of cells in
    let total = rw (c.as_slice-2.ensures ∙ c.in_ok-tables.ensures ∙ ap strata_of c.as_slice.ensures) at c.in-Some.ensures in
    let multiple = rw (c.as_slice-3.ensures ∙ c.in_ok-tables.ensures ∙ ap strata_of c.as_slice.ensures) at c.in-Some-multiple_of.ensures in
    let all : c.subjects.result ≡ sum_by size ss = rw (c.as_slice-4.ensures ∙ c.in_ok-tables.ensures ∙ ap strata_of c.as_slice.ensures) at c.subjects.ensures in
    let bound = rw (multiple.1, all) at c.in-Some-bounded_product.ensures in
    let same : c.in_ok-cells.cells ≡ cells = c.in_ok-cells.ensures in
    let tables : c.as_slice-5.result.now ≡ ss = c.as_slice-5.ensures ∙ c.in_ok-tables.ensures ∙ ap strata_of c.as_slice.ensures in
    subst (λ xs. AreMade c.args.odds (strata_of xs) (record { strata = c.in_ok-tables.tables; sizes = c.in_ok-sizes.sizes; frame = c.frame_of-frame.result })) (sym same)
    (record {
      tables = c.in_ok-tables.ensures ∙ ap strata_of c.as_slice.ensures;
      sizes_are = ap (λ ts. map sum (map row_counts ts)) (sym (c.as_slice-6.ensures ∙ c.in_ok-tables.ensures ∙ ap strata_of c.as_slice.ensures)) ∙ c.in_ok-sizes.ensures;
      frame = subst (IsFrameOf (stratified_test c.args.odds ss)) (sym c.frame_of-frame.ensures) (framed-at c.args.odds ss c.as_slice-5.result.now c.in-Some-multiple_of.multiple c.in-Some.total tables multiple.1 total.1);
      fitting = record { odds_are = c.requires; small = strata-small cells c.args.strata.now.in_range; few = strata-few cells c.args.strata.now.few_enough; total_fits = total.0; bound_fits = bound.0 };
    })

pub sizes-requires : goal.sizes-requires
sizes-requires c = rw (c.as_slice-6.ensures ∙ c.in_ok-tables.ensures ∙ ap strata_of c.as_slice.ensures) (strata-small c.args.strata.now.cells c.args.strata.now.in_range)

pub returns : goal.returns
returns c =
    let cells : List ℕ = c.args.strata.now.cells in
    let ss : List Stratum = strata_of cells in
    let total = rw (c.as_slice-2.ensures ∙ c.in_ok-tables.ensures ∙ ap strata_of c.as_slice.ensures) at c.in-Some.ensures in
    let multiple = rw (c.as_slice-3.ensures ∙ c.in_ok-tables.ensures ∙ ap strata_of c.as_slice.ensures) at c.in-Some-multiple_of.ensures in
    let all : c.subjects.result ≡ sum_by size ss = rw (c.as_slice-4.ensures ∙ c.in_ok-tables.ensures ∙ ap strata_of c.as_slice.ensures) at c.subjects.ensures in
    let bound = rw (multiple.1, all) at c.in-Some-bounded_product.ensures in
    (ap (data_of c.args.odds) c.in_ok-cells.ensures, not-wide (stratified_test c.args.odds ss) (total-is c.args.odds ss) total.0 (rw (multiple.1, all) at c.in-Some-bounded_product.ensures).0)
