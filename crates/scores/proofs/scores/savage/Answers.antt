use Rattle.std.proofs.Common.{Err, ◌∙◌, ◌*◌, length, ap, arith}
use Rattle.std.proofs.lemmas.Result.{err_from_is_err_and}
use Rattle.weights.specs.declared.TheConstants.{MAX}
use Rattle.scores.specs.PlaceScores.{multiple_to, place_scores, savage_place}
use Rattle.scores.specs.Scores.{averaged_by, common_size}
use Rattle.scores.specs.declared.kinds.ScoreFault.{ScoreFault}
use Rattle.scores.proofs.Answering.{fault-known, fault-where_wide}
use Rattle.scores.proofs.AverageLemmas.{wide-total}
use Rattle.scores.proofs.MultipleLemmas.{multiple_to-some}
use Rattle.scores.proofs.PlaceSums.{places-length, savage-small, savage-wide}
use Rattle.scores.proofs.scores.savage.Goals as goal

pub returns-in_err-multiple : goal.returns-in_err-multiple
returns-in_err-multiple c =
    let none = rw c.in_err-multiple.ensures.ok_part at c.multiple_to.ensures in
    let n = length c.args.values.now in
    fault-where_wide _ _ _ _ c.from_residual.ensures.0 (wide-total _ (place_scores (savage_place n) n) c.args.values.now (places-length (savage_place n) n) (savage-wide n _ (omega arith) none))

pub returns-in_err-places : goal.returns-in_err-places
returns-in_err-places c =
    let n = length c.args.values.now in
    let p = err_from_is_err_and c.from_residual-in_err-places.result c.from_residual-in_err-places.ensures.1 in
    rw (p.1, p.2) (fault-known (averaged_by savage_place c.args.values.now) (common_size c.args.values.now * multiple_to n) c.args.values.now c.in_err-places.field-0.0 (λ e.
    wide-total MAX (place_scores (savage_place n) n) c.args.values.now (places-length (savage_place n) n) (λ fits.
    let wide = c.in_err-places.ensures.too_wide (ap (λ (f : ScoreFault). Err f) e) in
    absurd (omega (arith, wide, fits)))))

pub averaged-requires-clause-as_many : goal.averaged-requires-clause-as_many
averaged-requires-clause-as_many c = rw (c.as_slice.ensures, c.in_ok-places.ensures.places) (places-length (savage_place (length c.args.values.now)) (length c.args.values.now))

pub averaged-requires-clause-some : goal.averaged-requires-clause-some
averaged-requires-clause-some c =
    let some = rw c.in_ok-multiple.ensures.ok_part at c.multiple_to.ensures in
    rw some.1 (multiple_to-some (length c.args.values.now))

pub averaged-requires-clause-small : goal.averaged-requires-clause-small
averaged-requires-clause-small c = λ h.
    let some = rw c.in_ok-multiple.ensures.ok_part at c.multiple_to.ensures in
    rw (c.as_slice.ensures, c.in_ok-places.ensures.places, some.1) (omega (arith, savage-small (length c.args.values.now) (omega (arith, h))))

pub returns : goal.returns
returns c =
    let some = rw c.in_ok-multiple.ensures.ok_part at c.multiple_to.ensures in
    rw (c.as_slice.ensures ∙ c.in_ok-places.ensures.places, some.1) at c.averaged.ensures
