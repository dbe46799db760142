use Rattle.kendall_test.proofs.TransposedRatios.{gives}
use Rattle.kendall_test.proofs.by_transposing.numerator_by_transposing.Goals as goal

pub in_ratio-requires : goal.in_ratio-requires
in_ratio-requires c =
    let by = gives c.args.order.now c.args.transposed.now c.made-here.result.now c.made-there.result.now c.args._tail _ c.requires.transposed c.made-here.ensures c.made-there.ensures (c.requires.found c.if-not-asked.false) in
    record { some = by.some; within = by.within; whole = by.whole }

pub returns : goal.returns
returns c a = (gives c.args.order.now c.args.transposed.now c.made-here.result.now c.made-there.result.now c.args._tail _ c.requires.transposed c.made-here.ensures c.made-there.ensures (c.requires.found a)).law _ c.in_ratio.ensures
