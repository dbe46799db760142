use Rattle.std.proofs.Common.{◌≡◌, ◌≤◌, ℕ, Bool, get_or, length, true, false, rules, ap, sym, ◌∙◌, arith, FitsSigned, to_z, of_z}
use Rattle.std.specs.Prelude.{ℤ, pos, nat_le}
use Rattle.std.proofs.lemmas.Int.{to_z-of_z}
use Rattle.std.proofs.lemmas.List.{take_all}
use mir.Syntax.{w128}
use Rattle.weights.specs.declared.lines.Line.{Line}
use Rattle.weights.specs.Conditional.{distance}
use Rattle.networks.specs.Lines.{line_sum}
use Rattle.distribution.proofs.Summing.{next-room, next-sum}
use Rattle.distribution.proofs.filtered.weight_far.Goals as goal
use Rattle.distribution.proofs.filtered.weight_far.Goals.{then-is_far, else-is_far}

abbrev no_line : Line
no_line = record { value = pos 0; weight = 0 }

abbrev is_far : ℕ → ℤ → ℕ → ℤ → Bool
is_far factor centre apart v = nat_le apart (distance factor centre v)

pub overflow_add-weight : goal.overflow_add-weight
overflow_add-weight c =
    let same : to_z w128 (of_z w128 c.args.centre) ≡ c.args.centre = to_z-of_z w128 c.args.centre c.ranges.centre in
    omega (arith, next-room (is_far c.args.factor c.args.centre c.args.apart) c.args.lines.now c.loop-line.line-index no_line c.loop-line-test.true, rw same at c.loop-line.invariant, c.requires)

pub loop-line-preserved : goal.loop-line-preserved
loop-line-preserved c =
    let line : Line = get_or c.args.lines.now c.loop-line.line-index no_line in
    let fits : FitsSigned w128 line.value = search rules in
    let same : to_z w128 (of_z w128 c.args.centre) ≡ c.args.centre = to_z-of_z w128 c.args.centre c.ranges.centre in
    let p : ℤ → Bool = is_far c.args.factor c.args.centre c.args.apart in
    let found = rw (same, to_z-of_z w128 line.value fits) at c.is_far.ensures in
    let before = rw same at c.loop-line.invariant in
    let next = λ (b : Bool). next-sum p c.args.lines.now c.loop-line.line-index no_line b c.loop-line-test.true in
    rw same (elim c.if-is_far.branch [
      | then-is_far w ↦ omega (arith, next true (sym found ∙ w.if-is_far.true), before, w.weight-is)
      | else-is_far w ↦ omega (arith, next false (sym found ∙ w.if-is_far.false), before, w.weight-is)
    ])

pub returns : goal.returns
returns c =
    let p : ℤ → Bool = is_far c.args.factor c.args.centre c.args.apart in
    let same : to_z w128 (of_z w128 c.args.centre) ≡ c.args.centre = to_z-of_z w128 c.args.centre c.ranges.centre in
    let last : length c.args.lines.now ≤ c.loop-line.line-index = omega (arith, c.loop-line-test.false) in
    (rw same at c.loop-line.invariant) ∙ ap (line_sum p) (take_all c.loop-line.line-index c.args.lines.now last)
