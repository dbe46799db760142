use Rattle.std.proofs.Common.{rules, inl, inr, ◌∙◌, ◌*◌, ap, arith}
use Rattle.std.specs.List.{sum}
use Rattle.weights.proofs.FirstLabel.{number_of_labellings-positive}
use Rattle.completion_bounds.proofs.FallingSizes.{falling-twice}
use Rattle.completion_bounds.proofs.TableWeights.{holds, plain-least, plain-greatest, least-found, greatest-found, sum-falling}
use Rattle.completion_bounds.proofs.fillings.weight_bounds.Goals as goal
use Rattle.completion_bounds.proofs.fillings.weight_bounds.Goals.{then-past-eq0-via-then-past-eq0, then-past-eq0-via-else-past-eq0+then-is_empty}

pub returns-then-past-eq0-clause-least : goal.returns-then-past-eq0-clause-least
returns-then-past-eq0-clause-least c = plain-least c.args.past c.args.margins.now c.args.columns.now (elim c.then-past-eq0.branch [
  | then-past-eq0-via-then-past-eq0 w ↦ inl w.if-past-eq0.true
  | then-past-eq0-via-else-past-eq0+then-is_empty w ↦ inr (search (rules, w.is_empty.ensures, w.if-is_empty))
])

pub returns-then-past-eq0-clause-greatest : goal.returns-then-past-eq0-clause-greatest
returns-then-past-eq0-clause-greatest c = plain-greatest c.args.past c.args.margins.now c.args.columns.now c.requires.level (elim c.then-past-eq0.branch [
  | then-past-eq0-via-then-past-eq0 w ↦ inl w.if-past-eq0.true
  | then-past-eq0-via-else-past-eq0+then-is_empty w ↦ inr (search (rules, w.is_empty.ensures, w.if-is_empty))
])

pub returns-then-past-eq0-clause-holds : goal.returns-then-past-eq0-clause-holds
returns-then-past-eq0-clause-holds c = holds c.args.past c.args.margins.now c.args.columns.now c.args.past c.args.past c.requires.level (returns-then-past-eq0-clause-least c) (returns-then-past-eq0-clause-greatest c)

pub least_product-least-requires-clause-falls : goal.least_product-least-requires-clause-falls
least_product-least-requires-clause-falls c = rw c.fall.ensures (falling-twice c.args.margins.now)

pub least_product-least-requires-clause-level : goal.least_product-least-requires-clause-level
least_product-least-requires-clause-level c = ap sum c.fall.ensures ∙ sum-falling c.args.margins.now ∙ c.requires.level

pub least_product-least-requires-clause-some : goal.least_product-least-requires-clause-some
least_product-least-requires-clause-some c = omega (arith, c.requires.rest, number_of_labellings-positive c.args.margins.now)

pub greatest_product-greatest-requires-clause-some : goal.greatest_product-greatest-requires-clause-some
greatest_product-greatest-requires-clause-some c = omega (arith, c.requires.rest, number_of_labellings-positive c.args.margins.now)

pub returns-clause-least : goal.returns-clause-least
returns-clause-least c = ap (λ n. c.args.past * n) (least-found c.args.margins.now c.args.columns.now c.fall.new.room c.args.rest c.least_product-least.result c.requires.level c.requires.rest c.fall.ensures c.least_product-least.ensures)

pub returns-clause-holds : goal.returns-clause-holds
returns-clause-holds c =
    let greatest = greatest-found c.args.margins.now c.args.columns.now c.args.rest c.greatest_product-greatest.result c.requires.rest c.greatest_product-greatest.ensures in
    holds c.args.past c.args.margins.now c.args.columns.now _ _ c.requires.level (returns-clause-least c) (ap (λ n. c.args.past * n) greatest)
