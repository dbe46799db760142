use Rattle.std.proofs.Common.{◌≡◌, Bool, get_or, true, false, rules, sym, ◌∙◌, ap, arith, FitsSigned}
use Rattle.std.specs.Prelude.{pos}
use Rattle.std.proofs.lemmas.Int.{to_z-of_z}
use mir.Syntax.{w128}
use Rattle.weights.specs.declared.lines.Line.{Line}
use Rattle.weights.specs.Rules.{passes}
use Rattle.distribution.proofs.Summing.{next-room, next-sum}
use Rattle.distribution.proofs.filtered.weight_of.Goals as goal
use Rattle.distribution.proofs.filtered.weight_of.Goals.{then-passes, else-passes}

abbrev no_line : Line
no_line = record { value = pos 0; weight = 0 }

pub overflow_add-sum : goal.overflow_add-sum
overflow_add-sum c = omega (arith, next-room (passes c.args.rule) c.args.lines.now c.loop-line.line-index no_line c.loop-line-test.true, c.loop-line.invariant, c.requires.total)

pub loop-line-preserved : goal.loop-line-preserved
loop-line-preserved c =
    let line : Line = get_or c.args.lines.now c.loop-line.line-index no_line in
    let fits : FitsSigned w128 line.value = search rules in
    let told : passes c.args.rule line.value ≡ c.passes.result = ap (passes c.args.rule) (sym (to_z-of_z w128 line.value fits)) ∙ sym c.passes.ensures in
    let next = λ (b : Bool). next-sum (passes c.args.rule) c.args.lines.now c.loop-line.line-index no_line b c.loop-line-test.true in
    elim c.if-passes.branch [
      | then-passes w ↦ omega (arith, next true (told ∙ w.if-passes.true), c.loop-line.invariant, w.sum-is)
      | else-passes w ↦ omega (arith, next false (told ∙ w.if-passes.false), c.loop-line.invariant, w.sum-is)
    ]
