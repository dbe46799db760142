use Rattle.std.proofs.Common.{◌≤◌, ◌∙◌, arith, rules, FitsSigned}
use Rattle.std.specs.Prelude.{ℤ, pos, ◌-ℤ◌, unsigned_abs}
use Rattle.std.specs.Int.{w128}
use Rattle.std.proofs.lemmas.Int.{ints, to_z-of_z}
use Rattle.weights.specs.declared.TheConstants.{MAX}
use Rattle.score_convolution.proofs.left.last_lacking.Goals as goal

less-fits : (total : ℤ) → unsigned_abs total ≤ MAX → FitsSigned w128 (total -ℤ pos 1)
less-fits total h = omega (arith, ints, h)

pub overflow_sub-total : goal.overflow_sub-total
overflow_sub-total c = rw (to_z-of_z w128 c.args.total c.ranges.total) (less-fits c.args.total c.requires)

pub returns : goal.returns
returns c =
    let total = to_z-of_z w128 c.args.total c.ranges.total in
    let bound = to_z-of_z w128 c.args.bound c.ranges.bound in
    let less = to_z-of_z w128 (c.args.total -ℤ pos 1) (less-fits c.args.total c.requires) in
    to_z-of_z w128 c.saturating_sub.result (search rules) ∙ (rw (total, less, bound) at c.saturating_sub.ensures)
