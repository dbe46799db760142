use Rattle.std.proofs.Common.{◌∷◌, ◌++◌, [], ℤ, List, FitsSigned, get_or, pos, rules, sym, ap, ◌∙◌}
use Rattle.std.specs.Int.{w128}
use Rattle.std.proofs.lemmas.Int.{to_z-of_z}
use Rattle.std.proofs.lemmas.List.{get_or-map, map_more}
use Rattle.midranks.specs.declared.ties.Tie.{Tie}
use Rattle.midranks.proofs.Places.{group-exists}
use Rattle.midranks.proofs.TieLemmas.{groups-ascend}
use Rattle.scores.proofs.spread.spread.Goals as goal

pub group_of-requires-clause-ascending : goal.group_of-requires-clause-ascending
group_of-requires-clause-ascending c = rw c.requires.groups (groups-ascend c.args.values.now)

pub group_of-requires-clause-member : goal.group_of-requires-clause-member
group_of-requires-clause-member c =
    let here = c.loop-value-test.true in
    let value = get_or c.args.values.now c.loop-value.value-index (pos 0) in
    let fits : FitsSigned w128 value = search rules in
    rw (c.requires.groups, to_z-of_z w128 value fits) (group-exists c.args.values.now c.loop-value.value-index (pos 0) here)

pub loop-value-preserved : goal.loop-value-preserved
loop-value-preserved c = λ f scored.
    let values = c.args.values.now in
    let i = c.loop-value.value-index in
    let here = c.loop-value-test.true in
    let value = get_or values i (pos 0) in
    let fits : FitsSigned w128 value = search rules in
    let group = c.group_of.result in
    let none : Tie = record { value = pos 0; count = 0 } in
    let score_fits : FitsSigned w128 (get_or c.args.scores.now group (pos 0)) = search rules in
    let score = ap (λ (scores : List ℤ). get_or scores group (pos 0)) scored ∙ get_or-map (λ (t : Tie). f t.value) c.args.ties.now group none (pos 0) c.group_of.ensures.within
    ∙ ap f (c.group_of.ensures.found none ∙ to_z-of_z w128 value fits) in
    rw (c.in_ok-push.ensures.ok, to_z-of_z w128 (get_or c.args.scores.now group (pos 0)) score_fits, score) (ap (λ (done : List ℤ). done ++ f value ∷ []) (c.loop-value.invariant f scored) ∙ sym (map_more f values i (pos 0) here))
