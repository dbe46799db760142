use Rattle.std.proofs.Common.{ℕ, List, ◌∷◌, ◌++◌, [], FitsSigned, get_or, pos, rules, sym, ap, ◌∙◌}
use Rattle.std.specs.Int.{w128}
use Rattle.std.proofs.lemmas.Int.{to_z-of_z}
use Rattle.std.proofs.lemmas.List.{map_more}
use Rattle.midranks.specs.Ties.{tie_groups}
use Rattle.midranks.proofs.Places.{group-exists}
use Rattle.kendall_test.specs.Kendall.{place_among}
use Rattle.kendall_test.proofs.kendall_made.places_of.Goals as goal

pub place_in-requires-clause-member : goal.place_in-requires-clause-member
place_in-requires-clause-member c =
    let value = get_or c.args.values.now c.loop-value.value-index (pos 0) in
    let fits : FitsSigned w128 value = search rules in
    rw (c.as_slice-ties.ensures, c.in_ok-groups.ensures.groups, to_z-of_z w128 value fits) (group-exists c.args.values.now c.loop-value.value-index (pos 0) c.loop-value-test.true)

pub loop-value-preserved : goal.loop-value-preserved
loop-value-preserved c =
    let value = get_or c.args.values.now c.loop-value.value-index (pos 0) in
    let fits : FitsSigned w128 value = search rules in
    let place = rw (c.as_slice-ties.ensures, c.in_ok-groups.ensures.groups, to_z-of_z w128 value fits) at c.place_in.ensures in
    rw (c.in_ok-push.ensures.ok, place) (ap (λ (done : List ℕ). done ++ place_among (tie_groups c.args.values.now) value ∷ []) c.loop-value.invariant ∙ sym (map_more (place_among (tie_groups c.args.values.now)) c.args.values.now c.loop-value.value-index (pos 0) c.loop-value-test.true))
