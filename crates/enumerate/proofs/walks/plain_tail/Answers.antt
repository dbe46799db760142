use Rattle.std.proofs.Common.{◌≡◌, ℕ, ◌+◌, List, Bool, true, false, sym, ◌∙◌, ap, arith}
use Rattle.weights.specs.Conditional.{ConditionalTest, is_extreme}
use Rattle.weights.specs.declared.tails.Tail.{Tail}
use Rattle.enumerate.proofs.Walking.{taken, passed, onward, numerator-≤}
use Rattle.enumerate.proofs.walks.plain_tail.Goals as goal
use Rattle.enumerate.proofs.walks.plain_tail.Goals.{then-extreme, else-extreme}

-- what is said of the slice is said of the labels
of_labels : (test : ConditionalTest) (tail : Tail) (labels slice : List ℕ) (b : Bool) → slice ≡ labels → b ≡ is_extreme test tail slice → is_extreme test tail labels ≡ b
of_labels test tail labels slice b e answer = sym (answer ∙ ap (is_extreme test tail) e)

weight_of_labels : (test : ConditionalTest) (labels slice : List ℕ) (weight : ℕ) → slice ≡ labels → weight ≡ test.weight slice → weight ≡ test.weight labels
weight_of_labels test labels slice weight e answer = answer ∙ ap test.weight e

pub overflow_add-sum : goal.overflow_add-sum
overflow_add-sum g c =
    let test = g.P.Plain.test c.args.problem.now in
    let labels = c.loop-labels.labels in
    let extreme = of_labels test c.args.tail labels c.as_slice.result.now true c.as_slice.ensures c.if-extreme.ensures in
    let weight = weight_of_labels test labels c.as_slice-then-extreme.result.now c.weight-weight.result c.as_slice-then-extreme.ensures c.weight-weight.ensures in
    omega (arith, taken test c.args.tail c.loop-labels.sum labels c.loop-labels.invariant extreme, numerator-≤ test c.args.tail, c.first.ensures.bounded)

pub loop-labels-preserved : goal.loop-labels-preserved
loop-labels-preserved g c =
    let test = g.P.Plain.test c.args.problem.now in
    let labels = c.loop-labels.labels in
    elim c.if-extreme.branch [
      | then-extreme w ↦
          (let extreme = of_labels test c.args.tail labels c.as_slice.result.now true c.as_slice.ensures w.if-extreme.ensures in
          let sum : c.if-extreme.sum ≡ c.loop-labels.sum + test.weight labels = w.sum-is ∙ ap (λ n. c.loop-labels.sum + n) (weight_of_labels test labels w.as_slice-then-extreme.result.now w.weight-weight.result w.as_slice-then-extreme.ensures w.weight-weight.ensures) in
          onward test c.args.tail c.if-extreme.sum labels c.next.new.labels (rw sum (taken test c.args.tail c.loop-labels.sum labels c.loop-labels.invariant extreme)) c.if-not-next.ensures.onward)
      | else-extreme w ↦
          (let not_extreme = of_labels test c.args.tail labels c.as_slice.result.now false c.as_slice.ensures w.if-extreme.ensures in
          onward test c.args.tail c.if-extreme.sum labels c.next.new.labels (rw w.sum-is (passed test c.args.tail c.loop-labels.sum labels c.loop-labels.invariant not_extreme)) c.if-not-next.ensures.onward)
    ]
