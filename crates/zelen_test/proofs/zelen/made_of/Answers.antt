use Rattle.std.proofs.Common.{◌≡◌, ◌≤◌, ◌∙◌, List, map, ap, sym, subst}
use Rattle.std.specs.List.{sum}
use Rattle.weights.specs.declared.TheConstants.{MAX}
use Rattle.weights.specs.Frames.{IsFrameOf}
use Rattle.strata_cells.specs.declared.stratum.Stratum.{Stratum}
use Rattle.strata_cells.specs.Strata.{row_counts, strata_of}
use Rattle.zelen_test.specs.Zelen.{observed_sum_test}
use Rattle.zelen_test.specs.ZelenNetwork.{number_with, own_sum}
use Rattle.zelen_test.proofs.ZelenTests.{observed}
use Rattle.zelen_test.proofs.zelen.made_of.Goals as goal

pub returns : goal.returns
returns c =
    let ss : List Stratum = strata_of c.args.strata.now.cells in
    let tables : c.in_ok-strata.strata ≡ ss = c.in_ok-strata.ensures ∙ ap strata_of c.as_slice.ensures in
    let summed_is : c.own_sum-sum.result ≡ own_sum ss = c.own_sum-sum.ensures ∙ ap own_sum (c.as_slice-2.ensures ∙ tables) in
    let total = rw c.in-Some.is at c.in_ok-total.ensures in
    let fits : number_with c.in_ok-strata.strata c.own_sum-sum.result ≤ MAX = total.0 in
    observed ss _ tables summed_is
    (record { small = c.tables_fit.ensures.small; few = c.tables_fit.ensures.few; sizes_are = ap (λ (ts : List Stratum). map sum (map row_counts ts)) (sym (c.as_slice-4.ensures ∙ tables)) ∙ c.in_ok-sizes.ensures })
    (subst (λ (ts : List Stratum). IsFrameOf (observed_sum_test ts) c.frame_of-frame.result) (c.as_slice-3.ensures ∙ tables) c.frame_of-frame.ensures)
    (subst (λ n. number_with ss n ≤ MAX) summed_is (subst (λ (ts : List Stratum). number_with ts c.own_sum-sum.result ≤ MAX) tables fits))
