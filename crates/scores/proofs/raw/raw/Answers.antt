use Rattle.std.proofs.Common.{◌≡◌, ◌∷◌, ◌++◌, ◌-◌, ◌/◌, ◌^◌, ◌∙◌, [], ℤ, List, FitsSigned, get_or, length, map, pos, ap, sym, rules}
use Rattle.std.specs.Int.{w128}
use Rattle.std.proofs.lemmas.List.{length-map, map_more, take_all}
use Rattle.midranks.specs.declared.ties.Tie.{Tie}
use Rattle.scores.specs.RawScores.{decimals, raw_score}
use Rattle.scores.proofs.RawLemmas.{decimals-most, division-gives, division-may, one-over, power-some}
use Rattle.scores.proofs.raw.raw.Goals as goal
use Rattle.scores.proofs.raw.raw.Goals.{After-loop-tie}

abbrev none : Tie
none = record { value = pos 0; count = 0 }

pub nonzero_div-tie : goal.nonzero_div-tie
nonzero_div-tie c =
    let value = (get_or c.as_slice-tie-items.result.now c.loop-tie.tie-index none).value in
    let fits : FitsSigned w128 value = search rules in
    division-may value c.greatest_unit-unit.result (decimals c.args.values.now) fits c.greatest_unit-unit.ensures

pub loop-tie-preserved : goal.loop-tie-preserved
loop-tie-preserved c =
    let values = c.args.values.now in
    let ties = c.as_slice-tie-items.result.now in
    let i = c.loop-tie.tie-index in
    let value = (get_or ties i none).value in
    let fits : FitsSigned w128 value = search rules in
    let score = division-gives value c.greatest_unit-unit.result (decimals values) fits c.greatest_unit-unit.ensures (decimals-most values) in
    rw (c.in_ok-push.ensures.ok, score) (ap (λ (done : List ℤ). done ++ raw_score (decimals values) value ∷ []) c.loop-tie.invariant ∙ sym (map_more (λ (t : Tie). raw_score (decimals values) t.value) ties i none c.loop-tie-test.true))

scores-are : (c : After-loop-tie) → c.loop-tie.scores ≡ map (λ t. raw_score (decimals c.args.values.now) t.value) c.in_ok-ties.ties
scores-are c =
    c.loop-tie.invariant
    ∙ ap (map (λ (t : Tie). raw_score (decimals c.args.values.now) t.value)) (take_all c.loop-tie.tie-index c.as_slice-tie-items.result.now c.loop-tie-test.false ∙ c.as_slice-tie-items.ensures)

pub scores_of_all-requires-clause-as_many : goal.scores_of_all-requires-clause-as_many
scores_of_all-requires-clause-as_many c =
    ap length (scores-are (goal.at.scores_of_all-requires-clause-as_many c).After-loop-tie) ∙ length-map c.in_ok-ties.ties (λ (t : Tie). raw_score (decimals c.args.values.now) t.value)

pub nonzero_div-unit : goal.nonzero_div-unit
nonzero_div-unit c = rw c.greatest_unit-unit.ensures (power-some (18 - decimals c.args.values.now))

pub returns : goal.returns
returns c =
    let power = ap (λ u. 10 ^ 18 / u) c.greatest_unit-unit.ensures ∙ one-over (decimals c.args.values.now) (decimals-most c.args.values.now) in
    rw power at c.scores_of_all.ensures (raw_score (decimals c.args.values.now)) (scores-are (goal.at.returns c).After-loop-tie)
