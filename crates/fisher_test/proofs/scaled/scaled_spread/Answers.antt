use Rattle.std.proofs.Common.{pos}
use Rattle.fisher_test.proofs.AboveLast.{above-push}
use Rattle.fisher_test.proofs.scaled.scaled_spread.Goals as goal

pub push-requires : goal.push-requires
push-requires c =
    above-push c.args.all c.args.of c.args.given.now c.as_slice-lines.result.now c.loop-line.line-index (record { value = pos 0; weight = 0 }) c.scaled.result c.loop-line.spread
    c.as_slice-lines.ensures.lines c.scaled.ensures c.loop-line.invariant c.requires.ascending c.loop-line-test.true
