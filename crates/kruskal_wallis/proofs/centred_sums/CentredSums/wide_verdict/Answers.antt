use Rattle.std.proofs.Common.{◌≡◌, ◌+◌, min, rules}
use Rattle.std.specs.Prelude.{pos}
use Rattle.completion_bounds.specs.Boxes.{greatest_squares, least_squares}
use Rattle.networks.specs.Judged.{rule_in, verdict_of}
use Rattle.networks.specs.PartialSums.{plus}
use Rattle.kruskal_wallis.proofs.CentredKeys.{capped-twice}
use Rattle.kruskal_wallis.proofs.centred_sums.CentredSums.wide_verdict.Goals as goal

pub returns : goal.returns
returns c =
    let m = c.args.self.now in
    let bound = m.sums.bound in
    let lows = plus c.args.partial.now c.args.least.now in
    let highs = plus c.args.partial.now c.args.greatest.now in
    let least = least_squares lows highs m.sums.factors.items in
    let greatest = greatest_squares lows highs m.sums.factors.items in
    let given : c.judged.result ≡ verdict_of (rule_in m.sums.judge c.args.tail) (pos (min (m.base + min least bound) bound)) (pos (min (m.base + min greatest bound) bound)) = search rules in
    rw (capped-twice m.base least bound, capped-twice m.base greatest bound) at given
