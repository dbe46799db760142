use Rattle.std.proofs.Common.{◌+◌, ap, arith}
use Rattle.zelen_test.proofs.LaterSums.{ranges-are}
use Rattle.zelen_test.proofs.later_sums.ranges_of.Goals as goal

pub returns : goal.returns
returns c =
    let least = ap (λ n. c.args.later.now.least + n) c.least_cell.ensures in
    let most = ap (λ n. c.args.later.now.most + n) c.greatest_cell.ensures in
    ranges-are c.args.strata.now c.args.sum c.requires.summed c.args.place c.requires.place c.args.later.now c.requires.later _ least most
    (omega (arith, c.max.ensures, c.saturating_sub.ensures, c.requires.most)) (omega (arith, c.min.ensures, c.saturating_sub-2.ensures, c.requires.least))
