use Rattle.std.proofs.Common.{◌++◌, [], ◌∷◌, ◌∙◌, List, map, sym, ap, subst, zero-add}
use Rattle.std.specs.List.{range_with_len}
use Rattle.std.proofs.lemmas.List.FromFn.{map-range_with_len_more}
use Rattle.sample_reader.specs.Data.{strata_data_of}
use Rattle.sample_reader.specs.declared.subjects.Subject.{Subject}
use Rattle.stratified_ranks.specs.RankMade.{AreLists}
use Rattle.stratified_ranks.specs.StratifiedRanks.{stratum_subjects}
use Rattle.stratified_ranks.proofs.rank_strata.RankStrata.of.Goals as goal

pub loop-stratum-preserved : goal.loop-stratum-preserved
loop-stratum-preserved c =
    let k = c.loop-stratum.stratum in
    let f = stratum_subjects (strata_data_of c.args.samples.now) in
    subst (λ (ss : List (List Subject)). AreLists ss c.push.new.self) (ap (λ (s : List Subject). map f (range_with_len 0 k) ++ s ∷ []) (c.as_slice.ensures.value ∙ c.in_ok-subjects.ensures.are) ∙ sym (map-range_with_len_more f 0 k k (zero-add k)))
    (c.in_ok-push.ensures (map f (range_with_len 0 k)) c.loop-stratum.invariant)
