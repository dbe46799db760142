use Rattle.fisher_test.proofs.SortedKeys.{sorted_number}
use Rattle.fisher_test.proofs.sorted_weights.SortedWeightsScalarMeasure.judge.Goals as goal

pub returns-clause-sound : goal.returns-clause-sound
returns-clause-sound c =
    let m = c.args.self.now.measure in
    sorted_number m.rows.items m.columns.items m.binomials.width m.falling_binomials.width m.highs.items m.judge m.right c.args.self.now.right.falls
