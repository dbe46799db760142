use Rattle.std.proofs.Common.{◌≡◌, ◌+◌, ◌<◌, ◌-◌, ℕ, List, drop, get_or, length, min, sym, ◌∙◌, ap, arith, rules, length-set}
use Rattle.std.specs.Prelude.{nat_abs, pos}
use Rattle.std.specs.List.{sum}
use mir.Syntax.{w128}
use Rattle.std.proofs.lemmas.Int.{to_z-of_z}
use Rattle.std.proofs.lemmas.List.Sums.{sum_by-drop_more}
use Rattle.label_network.specs.LabelSteps.{least}
use Rattle.label_network.specs.Meanings.{sizes_in}
use Rattle.label_network.proofs.Rows.{abs-at, length-abs}
use Rattle.label_network.proofs.ChoiceMoves.{fill_step}
use Rattle.label_network.proofs.choice_order.first_counts.Goals.{then-left-later, else-left-later, then-left-later-2, else-left-later-2}
use Rattle.label_network.proofs.choice_order.first_counts.Goals as goal

pub overflow_sub-later : goal.overflow_sub-later
overflow_sub-later c =
    let low : c.loop-i.i < length (sizes_in c.args.sizes.now) = omega (arith, c.loop-i-test.true, length-abs c.args.sizes.now) in
    omega (arith, (c.size_in.ensures ∙ ap nat_abs (to_z-of_z w128 (get_or c.args.sizes.now c.loop-i.i (pos 0)) (search rules)) ∙ sym (abs-at c.args.sizes.now c.loop-i.i c.loop-i-test.true)), c.loop-i.invariant.rest, sum_by-drop_more (λ v. v) (sizes_in c.args.sizes.now) c.loop-i.i 0 low)

pub loop-i-preserved : goal.loop-i-preserved
loop-i-preserved c =
    let xs : List ℕ = sizes_in c.args.sizes.now in
    let low : c.loop-i.i < length xs = omega (arith, c.loop-i-test.true, length-abs c.args.sizes.now) in
    let later : c.loop-i.later - c.size_in.result ≡ sum (drop (c.loop-i.i + 1) xs) = omega (arith, (c.size_in.ensures ∙ ap nat_abs (to_z-of_z w128 (get_or c.args.sizes.now c.loop-i.i (pos 0)) (search rules)) ∙ sym (abs-at c.args.sizes.now c.loop-i.i c.loop-i-test.true)), c.loop-i.invariant.rest, sum_by-drop_more (λ v. v) xs c.loop-i.i 0 low) in
    let count : c.if-left-later.counts ≡ c.loop-i.left - sum (drop (c.loop-i.i + 1) xs) = elim c.if-left-later.branch [
      | then-left-later w ↦ omega (arith, w.counts-is, later)
      | else-left-later w ↦ omega (arith, w.counts-is, w.if-left-later.false, later)
    ] in
    let left : c.if-left-later-2.left ≡ min c.loop-i.left (sum (drop (c.loop-i.i + 1) xs)) = elim c.if-left-later-2.branch [
      | then-left-later-2 w ↦ omega (arith, w.left-is, w.if-left-later-2.true, later)
      | else-left-later-2 w ↦ omega (arith, w.left-is, w.if-left-later-2.false, later)
    ] in
    record {
      long = length-set c.loop-i.counts c.loop-i.i c.if-left-later.counts ∙ c.loop-i.invariant.long;
      rest = later;
      within = omega (arith, left, later);
      same = fill_step xs c.loop-i.counts (least c.args.total xs) c.loop-i.i c.loop-i.left low c.loop-i.invariant.long c.loop-i.invariant.same _ _ count left;
    }
