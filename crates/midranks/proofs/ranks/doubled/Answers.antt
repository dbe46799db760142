use Rattle.std.proofs.Common.{ℤ, ◌≡◌, ◌<◌, ◌≤◌, ◌*◌, ◌∷◌, ◌++◌, [], List, ℕ, FitsSigned, map, get_or, length, pos, rules, sym, ap, ◌∙◌, arith}
use Rattle.std.specs.Int.{w128}
use Rattle.std.specs.List.{HoldsAt}
use Rattle.std.proofs.lemmas.Int.{to_z-of_z}
use Rattle.std.proofs.lemmas.List.{get_or-map, length-map, map_more, take_all}
use Rattle.std.proofs.lemmas.List.Elements.{All-map, All-same}
use Rattle.midranks.specs.Midranks.{doubled_midrank, midranks_among}
use Rattle.midranks.specs.MidrankSteps.{ranks_after}
use Rattle.midranks.specs.Ties.{tie_groups}
use Rattle.midranks.specs.declared.ties.Tie.{Tie}
use Rattle.midranks.proofs.Places.{doubled_midrank-most, group-exists, ranks-are, values_in-groups}
use Rattle.midranks.proofs.TieLemmas.{groups-ascend}
use Rattle.midranks.proofs.ranks.doubled.Goals as goal

pub ranks-requires : goal.ranks-requires
ranks-requires c = rw (c.as_slice.ensures, c.in_ok-ties.ensures.groups) (omega (arith, values_in-groups c.args.values.now, c.requires))

pub loop-value-init : goal.loop-value-init
unfolding midranks_among
loop-value-init c = c.empty-doubled.ensures

pub group_of-group-requires-clause-ascending : goal.group_of-group-requires-clause-ascending
group_of-group-requires-clause-ascending c = rw (c.as_slice-ties.ensures, c.in_ok-ties.ensures.groups) (groups-ascend c.args.values.now)

pub group_of-group-requires-clause-member : goal.group_of-group-requires-clause-member
group_of-group-requires-clause-member c =
    let here = c.loop-value-test.true in
    let value = get_or c.args.values.now c.loop-value.value-index (pos 0) in
    let fits : FitsSigned w128 value = search rules in
    rw (c.as_slice-ties.ensures, c.in_ok-ties.ensures.groups, to_z-of_z w128 value fits) (group-exists c.args.values.now c.loop-value.value-index (pos 0) here)

-- the groups' ranks are those of their values
ranks_of : (values : List ℤ) (ties groups : List Tie) (ranks some : List ℕ) → ties ≡ tie_groups values → groups ≡ ties → ranks ≡ some → some ≡ ranks_after 0 groups → ranks ≡ map (λ t. doubled_midrank values t.value) ties
ranks_of values ties groups ranks some e f g h = g ∙ h ∙ ap (ranks_after 0) (f ∙ e) ∙ ranks-are values ∙ ap (map (λ (t : Tie). doubled_midrank values t.value)) (sym e)

rank-at : (values : List ℤ) (ties : List Tie) (ranks : List ℕ) (group : ℕ) (v : ℤ) → ranks ≡ map (λ t. doubled_midrank values t.value) ties → group < length ties → HoldsAt (λ t. t.value ≡ v) ties group
    → (group < length ranks) × (get_or ranks group 0 ≡ doubled_midrank values v)
rank-at values ties ranks group v e h found =
    let none : Tie = record { value = pos 0; count = 0 } in (
      rw e (omega (arith, length-map ties (λ (t : Tie). doubled_midrank values t.value))),
      rw e (get_or-map (λ (t : Tie). doubled_midrank values t.value) ties group none 0 h ∙ ap (doubled_midrank values) (found none)),
    )

pub bounds-ranks-group : goal.bounds-ranks-group
bounds-ranks-group c =
    let value = get_or c.args.values.now c.loop-value.value-index (pos 0) in
    let ties_are = c.as_slice-ties.ensures ∙ c.in_ok-ties.ensures.groups in
    let ranks = ranks_of c.args.values.now _ c.as_slice.result.now _ _ ties_are (c.as_slice.ensures ∙ sym c.as_slice-ties.ensures) c.as_slice-ranks.ensures c.in_ok-ranks.ensures in
    (rank-at c.args.values.now c.as_slice-ties.result.now c.as_slice-ranks.result.now c.group_of-group.result _ ranks c.group_of-group.ensures.within c.group_of-group.ensures.found).0

pub loop-value-preserved : goal.loop-value-preserved
unfolding midranks_among
loop-value-preserved c =
    let values = c.args.values.now in
    let i = c.loop-value.value-index in
    let here = c.loop-value-test.true in
    let value = get_or values i (pos 0) in
    let fits : FitsSigned w128 value = search rules in
    let ties_are = c.as_slice-ties.ensures ∙ c.in_ok-ties.ensures.groups in
    let ranks = ranks_of values _ c.as_slice.result.now _ _ ties_are (c.as_slice.ensures ∙ sym c.as_slice-ties.ensures) c.as_slice-ranks.ensures c.in_ok-ranks.ensures in
    let rank = (rank-at values c.as_slice-ties.result.now c.as_slice-ranks.result.now c.group_of-group.result _ ranks c.group_of-group.ensures.within c.group_of-group.ensures.found).1 in
    let rank_is = rank ∙ ap (doubled_midrank values) (to_z-of_z w128 value fits) in
    rw (c.in_ok-push.ensures.ok, rank_is) (ap (λ (done : List ℕ). done ++ doubled_midrank values value ∷ []) c.loop-value.invariant ∙ sym (map_more (doubled_midrank values) values i (pos 0) here))

pub returns-clause-most : goal.returns-clause-most
unfolding midranks_among
returns-clause-most c =
    let values = c.args.values.now in
    let all = All-map (λ rank. rank ≤ 2 * length values) (doubled_midrank values) values (λ k d h. doubled_midrank-most values k d h) in
    let done = take_all c.loop-value.value-index values c.loop-value-test.false in
    All-same (λ rank. rank ≤ 2 * length values) c.loop-value.doubled (map (doubled_midrank values) values) (c.loop-value.invariant ∙ ap (map (doubled_midrank values)) done) all
