use Rattle.std.proofs.Common.{rules, ◌<◌, ◌-◌, arith, pos, get_or, length, ◌∙◌, sym, ap}
use mir.Syntax.{w128}
use Rattle.std.proofs.lemmas.Int.{to_z-of_z}
use Rattle.later_scores.specs.LaterSums.{later_scores, least_sum, greatest_sum}
use Rattle.label_network.specs.Meanings.{sizes_in}
use Rattle.label_network.specs.LinearSteps.{picked}
use Rattle.label_network.proofs.Rearranging.{picked-length}
use Rattle.label_network.proofs.Adding.{next-less, first-small, first-both, next-step, next-few, next-held, low-small, high-small, next-both, last-adding}
use Rattle.label_network.proofs.added.added.Goals as goal

pub add_step-first-requires-clause-small : goal.add_step-first-requires-clause-small
add_step-first-requires-clause-small c =
    rw (to_z-of_z w128 (get_or c.args.rows.now 0 (pos 0)) (search rules), to_z-of_z w128 c.total-total.result (search rules)) (omega (arith, (first-small c.args.rows.now (later_scores c.args.tables.now.scores.items c.args.tables.now.columns.items c.args.stage) c.total-total.result c.total-total.ensures c.requires.addable.small)))

pub loop-i-init : goal.loop-i-init
loop-i-init c =
    let given = rw (to_z-of_z w128 (get_or c.args.rows.now 0 (pos 0)) (search rules), to_z-of_z w128 c.total-total.result (search rules)) at c.add_step-first.ensures in
    let some : 0 < length c.args.rows.now = omega (arith, c.if-rows-eq0.false) in
    rw (to_z-of_z w128 c.add_step-first.result (search rules)) (first-both c.args.rows.now (picked c.args.order.now (sizes_in c.args.remaining.now)) (later_scores c.args.tables.now.scores.items c.args.tables.now.columns.items c.args.stage) c.count-left.result c.total-total.result c.add_step-first.result (c.requires.addable.level ∙ sym (picked-length c.args.order.now (sizes_in c.args.remaining.now))) some (c.count-left.ensures ∙ sym c.requires.addable.whole) c.total-total.ensures given)

pub overflow_sub-left : goal.overflow_sub-left
overflow_sub-left c = rw (c.size_at-left.ensures) (next-less c.args.rows.now (picked c.args.order.now (sizes_in c.args.remaining.now)) (later_scores c.args.tables.now.scores.items c.args.tables.now.columns.items c.args.stage) c.loop-i.i c.loop-i.auto.i c.loop-i-test.true (c.requires.addable.level ∙ sym (picked-length c.args.order.now (sizes_in c.args.remaining.now))) c.loop-i.left c.loop-i.invariant.least.counted)

pub ends-ends-requires-clause-few : goal.ends-ends-requires-clause-few
ends-ends-requires-clause-few c = rw (c.size_at-left.ensures) (next-few c.args.rows.now (picked c.args.order.now (sizes_in c.args.remaining.now)) (later_scores c.args.tables.now.scores.items c.args.tables.now.columns.items c.args.stage) c.loop-i.i c.loop-i.auto.i c.loop-i-test.true (c.requires.addable.level ∙ sym (picked-length c.args.order.now (sizes_in c.args.remaining.now))) c.loop-i.left c.loop-i.invariant.least.counted c.requires.addable.whole)

pub ends-ends-requires-clause-held : goal.ends-ends-requires-clause-held
ends-ends-requires-clause-held c = rw (c.size_at-left.ensures) (next-held c.args.rows.now (picked c.args.order.now (sizes_in c.args.remaining.now)) (later_scores c.args.tables.now.scores.items c.args.tables.now.columns.items c.args.stage) c.loop-i.i c.loop-i.auto.i c.loop-i-test.true (c.requires.addable.level ∙ sym (picked-length c.args.order.now (sizes_in c.args.remaining.now))) c.loop-i.left c.loop-i.invariant.least.counted _ c.requires.addable.tails)

pub add_steps-sums-requires-clause-step : goal.add_steps-sums-requires-clause-step
add_steps-sums-requires-clause-step c =
    rw (to_z-of_z w128 (get_or c.args.rows.now c.loop-i.i (pos 0)) (search rules), to_z-of_z w128 (get_or c.args.rows.now (c.loop-i.i - 1) (pos 0)) (search rules)) (next-step c.args.rows.now (picked c.args.order.now (sizes_in c.args.remaining.now)) (later_scores c.args.tables.now.scores.items c.args.tables.now.columns.items c.args.stage) c.loop-i.i c.loop-i.auto.i c.loop-i-test.true (c.requires.addable.level ∙ sym (picked-length c.args.order.now (sizes_in c.args.remaining.now))) c.requires.addable.steps)

pub add_steps-sums-requires-clause-small_low : goal.add_steps-sums-requires-clause-small_low
add_steps-sums-requires-clause-small_low c =
    rw (to_z-of_z w128 (get_or c.args.rows.now c.loop-i.i (pos 0)) (search rules), to_z-of_z w128 (get_or c.args.rows.now (c.loop-i.i - 1) (pos 0)) (search rules)) (low-small c.args.rows.now (picked c.args.order.now (sizes_in c.args.remaining.now)) (later_scores c.args.tables.now.scores.items c.args.tables.now.columns.items c.args.stage) c.loop-i.i c.loop-i.auto.i c.loop-i-test.true (c.requires.addable.level ∙ sym (picked-length c.args.order.now (sizes_in c.args.remaining.now))) c.loop-i.left c.loop-i.invariant.least.counted _ _ c.loop-i.invariant _ c.ends-ends.result.low c.ends-ends.ensures.low c.requires.addable.small)

pub add_steps-sums-requires-clause-small_high : goal.add_steps-sums-requires-clause-small_high
add_steps-sums-requires-clause-small_high c =
    rw (to_z-of_z w128 (get_or c.args.rows.now c.loop-i.i (pos 0)) (search rules), to_z-of_z w128 (get_or c.args.rows.now (c.loop-i.i - 1) (pos 0)) (search rules)) (high-small c.args.rows.now (picked c.args.order.now (sizes_in c.args.remaining.now)) (later_scores c.args.tables.now.scores.items c.args.tables.now.columns.items c.args.stage) c.loop-i.i c.loop-i.auto.i c.loop-i-test.true (c.requires.addable.level ∙ sym (picked-length c.args.order.now (sizes_in c.args.remaining.now))) c.loop-i.left c.loop-i.invariant.least.counted _ _ c.loop-i.invariant _ c.ends-ends.result.high c.ends-ends.ensures.high c.requires.addable.small)

pub loop-i-preserved : goal.loop-i-preserved
loop-i-preserved c =
    let given = rw (to_z-of_z w128 (get_or c.args.rows.now c.loop-i.i (pos 0)) (search rules), to_z-of_z w128 (get_or c.args.rows.now (c.loop-i.i - 1) (pos 0)) (search rules)) at c.add_steps-sums.ensures in
    rw (c.size_at-left.ensures) (next-both c.args.rows.now (picked c.args.order.now (sizes_in c.args.remaining.now)) (later_scores c.args.tables.now.scores.items c.args.tables.now.columns.items c.args.stage) c.loop-i.i c.loop-i.auto.i c.loop-i-test.true (c.requires.addable.level ∙ sym (picked-length c.args.order.now (sizes_in c.args.remaining.now))) c.loop-i.left c.loop-i.invariant.least.counted _ _ c.loop-i.invariant c.ends-ends.result.low c.ends-ends.result.high c.add_steps-sums.result.low c.add_steps-sums.result.high (c.ends-ends.ensures.low ∙ ap (λ n. least_sum (c.loop-i.left - n) (later_scores c.args.tables.now.scores.items c.args.tables.now.columns.items c.args.stage)) c.size_at-left.ensures) (c.ends-ends.ensures.high ∙ ap (λ n. greatest_sum (c.loop-i.left - n) (later_scores c.args.tables.now.scores.items c.args.tables.now.columns.items c.args.stage)) c.size_at-left.ensures) given.low given.high)

pub returns-clause-low : goal.returns-clause-low
returns-clause-low c = last-adding least_sum c.args.rows.now (picked c.args.order.now (sizes_in c.args.remaining.now)) (later_scores c.args.tables.now.scores.items c.args.tables.now.columns.items c.args.stage) c.loop-i.i c.loop-i.left _ c.loop-i-test.false c.loop-i.invariant.least

pub returns-clause-high : goal.returns-clause-high
returns-clause-high c = last-adding greatest_sum c.args.rows.now (picked c.args.order.now (sizes_in c.args.remaining.now)) (later_scores c.args.tables.now.scores.items c.args.tables.now.columns.items c.args.stage) c.loop-i.i c.loop-i.left _ c.loop-i-test.false c.loop-i.invariant.most
