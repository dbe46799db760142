use Rattle.std.proofs.Common.{ℕ, List}
use Rattle.weights.specs.Labellings.{labellings}
use Rattle.enumerate.proofs.Walking.{StepsThrough-written}
use Rattle.table_sums.specs.Tables.{row_sums}
use Rattle.fisher_test.proofs.fisher_ways.FisherTablePlain.next.Goals as goal

pub returns : goal.returns
returns c =
    let sizes : List ℕ = row_sums c.args.self.now in
    StepsThrough-written (labellings sizes) c.args.labels.now c.as_mut_slice.result.now c.next_labelling.new.labels c.next_labelling.result c.as_mut_slice.ensures.items c.next_labelling.auto.labels
    (c.next_labelling.ensures sizes (rw c.as_mut_slice.ensures.items c.requires))
