use Rattle.std.proofs.Common.{◌≡◌, ◌+◌, ◌*◌, ◌∙◌, length, map, refl, sym, ap, arith}
use Rattle.std.specs.Prelude.{pos}
use Rattle.std.specs.List.{sum_by}
use Rattle.weights.proofs.Centred.{framed, past-limit}
use Rattle.sample_reader.specs.Data.{strata_data_of}
use Rattle.stratified_ranks.specs.StrataSteps.{part_centre, part_of, parts_total}
use Rattle.stratified_ranks.specs.StratifiedRanks.{ranked_strata_test, second_size, strata_subjects}
use Rattle.stratified_ranks.specs.declared.rank_strata.Part.{Part}
use Rattle.stratified_ranks.proofs.RankLimits.{centre-is, ranked}
use Rattle.stratified_ranks.proofs.StrataSubjects.{usable-from}
use Rattle.stratified_ranks.proofs.rank_made.made_of.Goals as goal

pub returns-in_default : goal.returns-in_default
returns-in_default c =
    let none = rw (c.as_slice-parts.ensures ∙ c.in_ok-strata.ensures.parts) at c.in_default.ensures in
    omega (arith, c.strata_fit.ensures.total_is, past-limit (parts_total (map part_of (strata_subjects (strata_data_of c.args.samples.now)))) none)

pub returns : goal.returns
returns c =
    let given = strata_data_of c.args.samples.now in
    let lists = c.in_ok-strata.ensures in
    let total = rw (c.as_slice-parts.ensures ∙ lists.parts) at c.in-Some.ensures in
    let centre : c.centre_of-centre.result ≡ sum_by (λ s. second_size s * (length s + 1)) (strata_subjects given) = c.centre_of-centre.ensures ∙ ap (sum_by part_centre) (c.as_slice-parts.ensures ∙ lists.parts) ∙ centre-is (strata_subjects given) in (
      ranked given (usable-from c.args.samples.now) _ lists (c.in_ok-sizes.ensures ∙ ap (map (λ (part : Part). part.subjects)) c.as_slice-parts.ensures) total.0,
      rw (c.frame_of-frame.ensures, c.as_slice.ensures ∙ lists.ranks, c.as_slice-2.ensures ∙ lists.labels, centre, total.1) (framed 1 (pos (sum_by (λ s. second_size s * (length s + 1)) (strata_subjects given))) (ranked_strata_test (strata_subjects given)) _ refl refl refl (sym (c.strata_fit.ensures.total_is)) refl),
    )
