use Rattle.strata_cells.specs.Strata.{strata_of}
use Rattle.enumerate.proofs.Walking.{StepsThrough-written}
use Rattle.zelen_test.specs.Zelen.{observed_sum_labellings}
use Rattle.zelen_test.proofs.zelen_ways.ZelenPlain.next.Goals as goal

pub returns : goal.returns
returns c =
    StepsThrough-written (observed_sum_labellings (strata_of c.args.self.now)) c.args.labels.now c.as_mut_slice.result.now c.next_with_sum.new.labels c.next_with_sum.result c.as_mut_slice.ensures.items c.next_with_sum.auto.labels
    (rw (c.as_slice-strata.ensures, c.made-made.ensures.members) at c.next_with_sum.ensures)
