use Rattle.std.proofs.Common.{arith}
use Rattle.completion_bounds.proofs.TableWeights.{sum-falling}
use Rattle.fisher_test.proofs.weight_measure.WeightMeasure.new.Goals as goal

pub for_rows-requires-2 : goal.for_rows-requires-2
for_rows-requires-2 c = rw c.fall.ensures (omega (arith, sum-falling c.args.rows.now, c.requires.units))
