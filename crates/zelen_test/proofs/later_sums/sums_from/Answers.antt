use Rattle.zelen_test.proofs.LaterSums.{later-next, past-all}
use Rattle.zelen_test.proofs.later_sums.sums_from.Goals as goal

pub returns-in_default : goal.returns-in_default
returns-in_default c =
    past-all c.args.strata.now c.args.sum c.requires.summed c.args.place c.requires.place c.args.later.now c.requires.later c.ranges_of-ranges.result c.ranges_of-ranges.ensures (rw c.in_default.is at c.in_ok-numbers.ensures)

pub returns : goal.returns
returns c =
    later-next c.args.strata.now c.args.sum c.requires.summed c.args.place c.requires.place c.args.later.now c.requires.later c.ranges_of-ranges.result c.ranges_of-ranges.ensures c.in-Some.numbers (rw c.in-Some.is at c.in_ok-numbers.ensures)
