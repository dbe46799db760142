use Rattle.std.proofs.Common.{◌∙◌}
use Rattle.weights.specs.Conditional.{numerator}
use Rattle.networks.specs.Follows.{open_keys}
use Rattle.networks.proofs.Following.{extreme-is, tail_sum_is}
use Rattle.stage_network.proofs.answering.by_network.Goals as goal

pub returns : goal.returns
returns g c =
    let test = g.P.Plain.test c.args.problem.now in
    let built = c.in_ok-stages.ensures.built in
    let sum = rw built at c.in_ok-sum.ensures.sum in
    let opened = rw built at c.in_ok-sum.ensures.opened in
    tail_sum_is c.in_ok-sum.sum (numerator test c.args.tail) (open_keys (g.P.Prepared.network c.args.problem.now) c.args.tail)
    (sum ∙ extreme-is test c.args.tail (g.P.Prepared.running c.args.problem.now c.args.tail) (c.network_of.ensures.follows c.args.tail c.requires)) (opened ∙ c.network_of.ensures.counted c.args.tail c.requires)
