use Rattle.std.specs.Prelude.{pos}
use Rattle.weights.proofs.Items.{two_items}
use Rattle.runs_test.proofs.run_measure.RunMeasureMeasure.first.Goals as goal

pub returns : goal.returns
returns c = two_items c.args.partial.now (pos 2) (pos 0) c.requires
