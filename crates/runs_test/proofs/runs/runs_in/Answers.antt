use Rattle.std.proofs.Common.{◌<◌, ◌∙◌, arith}
use Rattle.std.proofs.lemmas.List.Elements.{recursion_from_All}
use Rattle.runs_test.proofs.RunValues.{none-to-come, runs-are}
use Rattle.runs_test.proofs.runs.runs_in.Goals as goal

pub returns : goal.returns
returns c = record { result = none-to-come c.loop-label.runs c.loop-label.last c.loop-label.label-index c.args.labels.now (omega (arith, c.loop-label-test.false)) ∙ c.loop-label.invariant.counted ∙ runs-are c.args.labels.now (recursion_from_All (λ x. x < 2) c.args.labels.now c.requires) }
