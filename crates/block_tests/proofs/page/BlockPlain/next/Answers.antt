use Rattle.weights.specs.Labellings.{labellings}
use Rattle.enumerate.proofs.Walking.{StepsThrough-written}
use Rattle.block_tests.proofs.page.BlockPlain.next.Goals as goal

pub returns : goal.returns
returns c =
    StepsThrough-written (labellings c.args.self.now) c.args.labels.now c.as_mut_slice.result.now c.next_labelling.new.labels c.next_labelling.result c.as_mut_slice.ensures.items c.next_labelling.auto.labels
    (c.next_labelling.ensures c.args.self.now (rw c.as_mut_slice.ensures.items c.requires))
