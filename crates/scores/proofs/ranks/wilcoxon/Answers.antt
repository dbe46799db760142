use Rattle.std.proofs.Common.{◌≡◌, ◌∙◌, length, map, pos, ap, arith}
use Rattle.std.proofs.lemmas.List.{length-map, take_all}
use Rattle.midranks.specs.Midranks.{doubled_midrank}
use Rattle.midranks.specs.declared.ties.Tie.{Tie}
use Rattle.midranks.proofs.Places.{values_in-groups}
use Rattle.scores.proofs.AverageLemmas.{map-map}
use Rattle.scores.proofs.ranks.wilcoxon.Goals as goal
use Rattle.scores.proofs.ranks.wilcoxon.Goals.{After-loop-rank}

pub group_ranks-requires : goal.group_ranks-requires
group_ranks-requires c =
    rw (c.as_slice.ensures ∙ c.in_ok-ties.ensures.groups) (omega (arith, values_in-groups c.args.values.now, c.requires))

scores-are : (c : After-loop-rank) → c.loop-rank.scores ≡ map (λ t. pos (doubled_midrank c.args.values.now t.value)) c.in_ok-ties.ties
scores-are c =
    let rank = λ (t : Tie). doubled_midrank c.args.values.now t.value in
    let ranks = c.in_ok-ranks.ensures c.args.values.now (c.as_slice.ensures ∙ c.in_ok-ties.ensures.groups) in
    c.loop-rank.invariant
    ∙ ap (map pos) (take_all c.loop-rank.rank-index c.as_slice-rank-items.result.now c.loop-rank-test.false ∙ c.as_slice-rank-items.ensures ∙ ranks ∙ ap (map rank) c.as_slice.ensures)
    ∙ map-map pos rank c.in_ok-ties.ties

pub scores_of_all-requires-clause-as_many : goal.scores_of_all-requires-clause-as_many
scores_of_all-requires-clause-as_many c =
    ap length (scores-are c) ∙ length-map c.in_ok-ties.ties (λ (t : Tie). pos (doubled_midrank c.args.values.now t.value))

pub returns : goal.returns
returns c = c.scores_of_all.ensures (λ v. pos (doubled_midrank c.args.values.now v)) (scores-are (goal.at.returns c).After-loop-rank)
