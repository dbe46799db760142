use Rattle.std.proofs.Common.{◌∷◌, ◌++◌, ◌/◌, ◌-◌, ◌^◌, [], ℤ, List, FitsSigned, map, get_or, pos, rules, sym, ap, ◌∙◌}
use Rattle.std.specs.Int.{w128}
use Rattle.std.proofs.lemmas.List.{map_more, take_all}
use Rattle.scores.specs.RawScores.{decimals, raw_score}
use Rattle.scores.proofs.RawLemmas.{decimals-most, division-gives, division-may, one-over, power-some}
use Rattle.scores.proofs.whole.whole_values.Goals as goal

pub nonzero_div-value : goal.nonzero_div-value
nonzero_div-value c =
    let value = get_or c.args.values.now c.loop-value.value-index (pos 0) in
    let fits : FitsSigned w128 value = search rules in
    division-may value c.greatest_unit-unit.result (decimals c.args.values.now) fits c.greatest_unit-unit.ensures

pub loop-value-preserved : goal.loop-value-preserved
loop-value-preserved c =
    let values = c.args.values.now in
    let i = c.loop-value.value-index in
    let here = c.loop-value-test.true in
    let value = get_or values i (pos 0) in
    let fits : FitsSigned w128 value = search rules in
    let score = division-gives value c.greatest_unit-unit.result (decimals values) fits c.greatest_unit-unit.ensures (decimals-most values) in
    rw (c.in_ok-push.ensures.ok, score) (ap (λ (done : List ℤ). done ++ raw_score (decimals values) value ∷ []) c.loop-value.invariant ∙ sym (map_more (raw_score (decimals values)) values i (pos 0) here))

pub nonzero_div-result : goal.nonzero_div-result
nonzero_div-result c = rw c.greatest_unit-unit.ensures (power-some (18 - decimals c.args.values.now))

pub returns : goal.returns
returns c =
    let values = c.args.values.now in
    record {
      list = c.loop-value.invariant ∙ ap (map (raw_score (decimals values))) (take_all c.loop-value.value-index values c.loop-value-test.false);
      power = ap (λ u. 10 ^ 18 / u) c.greatest_unit-unit.ensures ∙ one-over (decimals values) (decimals-most values);
    }
