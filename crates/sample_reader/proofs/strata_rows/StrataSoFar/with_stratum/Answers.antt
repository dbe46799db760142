use Rattle.std.proofs.Common.{ℕ, List, ap}
use Rattle.sample_reader.proofs.SubjectLemmas.{next}
use Rattle.sample_reader.specs.StrataGroups.{StrataSubjects}
use Rattle.sample_reader.proofs.strata_rows.StrataSoFar.with_stratum.Goals as goal

pub invariant_of-result : goal.invariant_of-result
invariant_of-result c =
    let kept = c.self.inside in
    let one_more = next kept.strata _ kept.places _ c.args.stratum.now c.self.invariant c.in_ok-place.ensures.number c.in_ok-place.ensures.ok in
    rw (c.in_ok-push.ensures.ok, one_more.labels_are) one_more.numbered

pub returns : goal.returns
returns c =
    let kept = c.self.inside in
    let one_more = next kept.strata _ kept.places _ c.args.stratum.now c.self.invariant c.in_ok-place.ensures.number c.in_ok-place.ensures.ok in
    let with_strata : List (List ℕ) → StrataSubjects = λ strata. record { strata = strata; subjects = kept.subjects } in
    rw (← c.self.view_is, c.in_ok-push.ensures.ok) (ap with_strata one_more.labels_are)
