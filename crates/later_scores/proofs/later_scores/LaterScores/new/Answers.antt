use Rattle.std.proofs.Common.{rules, ◌≡◌, ℕ, ◌+◌, ◌-◌, [], ◌∷◌, ◌++◌, length, replicate, arith, sym, ap, ◌∙◌, slice_index_or, pos, to_z, of_z}
use mir.Syntax.{w128}
use Rattle.std.proofs.lemmas.Int.{to_z-of_z}
use Rattle.later_scores.specs.LaterSums.{later_scores}
use Rattle.later_scores.proofs.Stages.{count-fits, count-next}
use Rattle.later_scores.proofs.Building.{built-first, built-more}
use Rattle.later_scores.proofs.later_scores.LaterScores.new.Goals as goal

pub loop-stage-init : goal.loop-stage-init
loop-stage-init c =
    let width : ℕ = c.args.most + 1 in
    let low : c.in_ok-low_row.low_row.items ≡ replicate (c.args.most + 1) (pos 0) = search rules in
    let high : c.in_ok-high_row.high_row.items ≡ replicate (c.args.most + 1) (pos 0) = search rules in
    let totals : c.in_ok-totals.totals.items ≡ pos 0 ∷ [] = search rules in
    let counts : c.in_ok-counts.counts.items ≡ 0 ∷ [] = search rules in
    rw ((c.as_mut_slice-low.ensures.value ∙ low), (c.as_mut_slice-high.ensures.value ∙ high), (c.in_ok-least.ensures.items ∙ c.as_mut_slice-low.ensures.value ∙ low), (c.in_ok-greatest.ensures.items ∙ c.as_mut_slice-high.ensures.value ∙ high), totals, counts) (built-first c.args.scores.now c.args.columns.now (c.args.most + 1) c.requires.long)

pub overflow_add-before : goal.overflow_add-before
overflow_add-before c =
    let back : (c.loop-stage.stage - 1) + 1 ≡ c.loop-stage.stage = omega (arith, c.loop-stage-test.true) in
    omega (arith, (count-fits c.args.scores.now c.args.columns.now c.requires.long (c.loop-stage.stage - 1) c.loop-stage.before (omega (arith, c.loop-stage-test.true, c.loop-stage.invariant.stage)) (c.loop-stage.invariant.count ∙ ap (λ g. length (later_scores c.args.scores.now c.args.columns.now g)) (sym back)) c.requires.few))

pub loop-stage-preserved : goal.loop-stage-preserved
loop-stage-preserved c =
    let back : (c.loop-stage.stage - 1) + 1 ≡ c.loop-stage.stage = omega (arith, c.loop-stage-test.true) in
    let least : c.extend_from_slice.new.self.items ≡ c.loop-stage.least.items ++ c.add_stage-total.new.low = search rules in
    let greatest : c.extend_from_slice-in-loop-stage.new.self.items ≡ c.loop-stage.greatest.items ++ c.add_stage-total.new.high = search rules in
    let totals : c.push.new.self.items ≡ c.loop-stage.totals.items ++ to_z w128 (of_z w128 c.add_stage-total.result) ∷ [] = search rules in
    let counts : c.push-in-loop-stage.new.self.items ≡ c.loop-stage.counts.items ++ (c.loop-stage.before + slice_index_or c.args.columns.now (c.loop-stage.stage - 1) 0) ∷ [] = search rules in
    rw (least, greatest, totals, counts) (built-more c.args.scores.now c.args.columns.now (c.args.most + 1) c.loop-stage.stage c.loop-stage.low c.loop-stage.high c.add_stage-total.new.low c.add_stage-total.new.high c.loop-stage.before _ _ _ c.loop-stage.least.items c.loop-stage.greatest.items c.loop-stage.totals.items c.loop-stage.counts.items c.loop-stage-test.true c.loop-stage.invariant
    c.add_stage-total.auto.low c.add_stage-total.auto.high c.add_stage-total.ensures.low c.add_stage-total.ensures.high (count-next c.args.scores.now c.args.columns.now c.requires.long (c.loop-stage.stage - 1) c.loop-stage.before (omega (arith, c.loop-stage-test.true, c.loop-stage.invariant.stage)) (c.loop-stage.invariant.count ∙ ap (λ g. length (later_scores c.args.scores.now c.args.columns.now g)) (sym back))) ((to_z-of_z w128 c.add_stage-total.result (search rules)) ∙ c.add_stage-total.ensures.total))
