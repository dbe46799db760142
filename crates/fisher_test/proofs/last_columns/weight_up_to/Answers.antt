use Rattle.std.proofs.Common.{◌∙◌, ◌+◌, ℕ, List, ap, arith}
use Rattle.std.specs.Prelude.{ℤ, pos, int_le}
use Rattle.std.proofs.lemmas.Int.{to_z-of_z}
use mir.Syntax.{w128}
use mir.Val.{to_z, of_z}
use Rattle.std.proofs.lemmas.List.{take_all}
use Rattle.weights.specs.declared.lines.Line.{Line}
use Rattle.fisher_test.specs.LastSteps.{once, valued}
use Rattle.fisher_test.proofs.LastColumns.{line-next, lines-few}
use Rattle.fisher_test.proofs.last_columns.weight_up_to.Goals as goal

abbrev no_line : Line
no_line = record { value = pos 0; weight = 0 }

pub overflow_add-sum : goal.overflow_add-sum
overflow_add-sum c =
    let lines : List Line = c.args.lines.now in
    let i : ℕ = c.loop-line.line-index in
    let z : ℤ = to_z w128 (of_z w128 c.args.most) in
    omega (arith, line-next (λ v. int_le v z) lines i no_line c.loop-line-test.true, lines-few (λ v. int_le v z) lines (i + 1), c.loop-line.invariant, c.weight_within-sum.ensures, c.requires)

pub loop-line-preserved : goal.loop-line-preserved
loop-line-preserved c =
    let lines : List Line = c.args.lines.now in
    let i : ℕ = c.loop-line.line-index in
    let z : ℤ = to_z w128 (of_z w128 c.args.most) in
    omega (arith, line-next (λ v. int_le v z) lines i no_line c.loop-line-test.true, c.loop-line.invariant, c.weight_within-sum.ensures)

pub returns : goal.returns
returns c =
    let z : ℤ = to_z w128 (of_z w128 c.args.most) in
    c.loop-line.invariant
    ∙ ap (valued (once (λ v. int_le v z))) (take_all c.loop-line.line-index c.args.lines.now c.loop-line-test.false)
    ∙ ap (λ (y : ℤ). valued (once (λ v. int_le v y)) c.args.lines.now) (to_z-of_z w128 c.args.most c.ranges.most)
