use Rattle.std.proofs.Common.{◌+◌, ◌<◌, get_or, length, sym, ◌∙◌, ap, arith, rules}
use Rattle.std.specs.Prelude.{nat_abs, pos}
use mir.Syntax.{w128}
use Rattle.std.proofs.lemmas.Int.{to_z-of_z}
use Rattle.label_network.specs.Meanings.{sizes_in}
use Rattle.label_network.proofs.Rows.{abs-at, length-abs, sum-front, sum-more}
use Rattle.label_network.proofs.choice_order.subjects_in.Goals as goal

pub overflow_add-total : goal.overflow_add-total
overflow_add-total c =
    let low : c.loop-size.size-index < length (sizes_in c.args.sizes.now) = omega (arith, c.loop-size-test.true, length-abs c.args.sizes.now) in
    omega (arith, (c.size_in-total.ensures ∙ ap nat_abs (to_z-of_z w128 (get_or c.args.sizes.now c.loop-size.size-index (pos 0)) (search rules)) ∙ sym (abs-at c.args.sizes.now c.loop-size.size-index c.loop-size-test.true)), c.loop-size.invariant, sum-more (sizes_in c.args.sizes.now) c.loop-size.size-index low, sum-front (sizes_in c.args.sizes.now) (c.loop-size.size-index + 1), c.requires.small)

pub loop-size-preserved : goal.loop-size-preserved
loop-size-preserved c =
    let low : c.loop-size.size-index < length (sizes_in c.args.sizes.now) = omega (arith, c.loop-size-test.true, length-abs c.args.sizes.now) in
    omega (arith, (c.size_in-total.ensures ∙ ap nat_abs (to_z-of_z w128 (get_or c.args.sizes.now c.loop-size.size-index (pos 0)) (search rules)) ∙ sym (abs-at c.args.sizes.now c.loop-size.size-index c.loop-size-test.true)), c.loop-size.invariant, sum-more (sizes_in c.args.sizes.now) c.loop-size.size-index low)
