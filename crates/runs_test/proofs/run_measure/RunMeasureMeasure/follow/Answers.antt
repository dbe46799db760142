use Rattle.std.proofs.Common.{rules, ◌∙◌, arith, refl, FitsSigned}
use mir.Syntax.{w128}
use Rattle.std.proofs.lemmas.Int.{to_z-of_z}
use Rattle.weights.proofs.Items.{two_items}
use Rattle.runs_test.proofs.RunKeys.{choice-long, numbers}
use Rattle.runs_test.proofs.run_measure.RunMeasureMeasure.follow.Goals as goal

pub bounds-choice-1 : goal.bounds-choice-1
bounds-choice-1 c = omega (arith, choice-long c.args.self.now.first c.args.self.now.second c.args.self.now.judge c.args.self.now.right c.args._stage c.args._remaining.now c.args.choice.now c.args.partial.now c.requires.allowed)

pub with_label-requires : goal.with_label-requires
with_label-requires c = numbers c.args.self.now.first c.args.self.now.second c.args.self.now.judge c.args.self.now.right c.args._stage c.args._remaining.now c.args.partial.now c.requires.allowed.reached

pub returns : goal.returns
returns c =
    let label : FitsSigned w128 c.signed.result = search rules in
    let runs : FitsSigned w128 c.with_label.result = search rules in
    two_items c.args.next.now _ _ c.requires.room
    ∙ rw (to_z-of_z w128 c.signed.result label, to_z-of_z w128 c.with_label.result runs, c.signed.ensures, c.with_label.ensures) refl
