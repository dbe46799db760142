use Rattle.std.proofs.Common.{◌≡◌, ◌≤◌, ℕ, ◌*◌, Bool, true, false, cond, get_or, length, ◌∙◌, ap, arith}
use Rattle.std.specs.List.{sum_by}
use Rattle.std.proofs.lemmas.Int.{to_z-of_z}
use mir.Syntax.{w128}
use Rattle.weights.specs.Labellings.{labels}
use Rattle.weights.specs.Rules.{passes}
use Rattle.concordant_pairs.specs.ConcordantTails.{even_value}
use Rattle.concordant_pairs.proofs.Passing.{next-place, within-all}
use Rattle.concordant_pairs.proofs.tails.passing.Goals as goal

no-more : (b : Bool) (n : ℕ) → n * cond b 1 0 ≤ n * 1
no-more true n = omega arith
no-more false n = omega arith

pub overflow_add-weight : goal.overflow_add-weight
overflow_add-weight c =
    let here = no-more (passes c.args.rule (even_value c.args.base c.args.step c.loop-pairs.pairs)) (get_or c.args.counts.now c.loop-pairs.pairs 0) in
    let added = rw (to_z-of_z w128 c.args.base c.ranges.base) at c.count_passing-weight.ensures in
    omega (arith, here, added, c.loop-pairs.invariant.1, within-all (λ u. get_or c.args.counts.now u 0 * 1) c.loop-pairs.pairs (length c.args.counts.now) c.loop-pairs-test.true, c.requires.light)

pub loop-pairs-preserved : goal.loop-pairs-preserved
loop-pairs-preserved c =
    let here = no-more (passes c.args.rule (even_value c.args.base c.args.step c.loop-pairs.pairs)) (get_or c.args.counts.now c.loop-pairs.pairs 0) in
    let added = rw (to_z-of_z w128 c.args.base c.ranges.base) at c.count_passing-weight.ensures in
    let before = rw (to_z-of_z w128 c.args.base c.ranges.base) at c.loop-pairs.invariant.0 in (
      rw (to_z-of_z w128 c.args.base c.ranges.base) (omega (arith, before, added, next-place (λ u. get_or c.args.counts.now u 0 * cond (passes c.args.rule (even_value c.args.base c.args.step u)) 1 0) c.loop-pairs.pairs)),
      omega (arith, here, c.loop-pairs.invariant.1, added, next-place (λ u. get_or c.args.counts.now u 0 * 1) c.loop-pairs.pairs),
    )

pub returns : goal.returns
returns c =
    let end : c.loop-pairs.pairs ≡ length c.args.counts.now = omega (arith, c.loop-pairs.auto.pairs-end, c.loop-pairs-test.false) in
    (rw (to_z-of_z w128 c.args.base c.ranges.base) at c.loop-pairs.invariant.0) ∙ ap (λ n. sum_by (λ u. get_or c.args.counts.now u 0 * cond (passes c.args.rule (even_value c.args.base c.args.step u)) 1 0) (labels n)) end
