use Rattle.std.proofs.Common.{◌≡◌, ◌+◌, ◌<◌, ◌∷◌, [], length, get_or, ap, ◌∙◌, arith, rules}
use Rattle.std.proofs.lemmas.List.{get_or_default}
use Rattle.node_runs.specs.declared.loose.Lead.{Lead}
use Rattle.node_runs.proofs.Aside.{lead-at, joined-more}
use Rattle.node_runs.proofs.loose.joined.Goals as goal

pub loop-place-preserved : goal.loop-place-preserved
loop-place-preserved g c =
    let number = g.C.Count.number in
    let i = c.loop-place.invariant in
    let leads = c.args.leads.now in
    let place = c.loop-place.place in
    let low : place < length leads = c.loop-place-test.true in
    let d = c.index-leads-place-in-loop-place.result in
    let next : Lead g.row.C.Denot = get_or leads place d in
    let e = c.index-leads-place-in-loop-place-2.result in
    let weight : number (get_or leads place e).weight ≡ number next.weight = ap (λ (l : Lead g.row.C.Denot). number l.weight) (get_or_default leads place e d low) in
    let same : next.number ≡ c.loop-place.lead.number = search rules in
    record {
      on = omega (arith, i.on);
      within = omega (arith, low);
      joined = joined-more _ _ _ _ i.joined _ _ (lead-at number leads place d low) _ (ap (λ z. z ∷ []) same) (c.plus-lead.ensures ∙ ap (λ m. number c.loop-place.lead.weight + m) weight);
    }
