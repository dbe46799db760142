use Rattle.std.proofs.Common.{◌≡◌, true, ◌∙◌, ap}
use Rattle.weights.specs.Conditional.{numerator}
use Rattle.networks.specs.Network.{Network}
use Rattle.networks.specs.Completions.{extreme_weight}
use Rattle.networks.specs.Opened.{opened_below}
use Rattle.networks.specs.Follows.{open_keys}
use Rattle.networks.specs.EachTail.{sum_for}
use Rattle.networks.proofs.Following.{extreme-is, tail_sum_is}
use Rattle.stage_network.proofs.answering.by_one_sweep.Goals as goal

pub returns : goal.returns
returns g c t a =
    let test = g.P.Plain.test c.args.problem.now in
    let runs = g.P.Prepared.running c.args.problem.now in
    let has : test.has_tail t ≡ true = c.requires.has t a in
    let same : g.P.Built.Stages.network c.in_ok-stages.stages ≡ runs t = c.in_ok-stages.ensures.built ∙ c.requires.shared c.in-Some.tail t (c.requires.has c.in-Some.tail c.in-Some.ensures.asked) has in
    tail_sum_is (sum_for c.in_ok-sums.sums t) (numerator test t) (open_keys (g.P.Prepared.network c.args.problem.now) t)
    (c.in_ok-sums.ensures.sum t a ∙ ap (λ (n : Network). extreme_weight n t 0 n.first) same ∙ extreme-is test t (runs t) (c.network_of.ensures.follows t has))
    (c.in_ok-sums.ensures.opened t a ∙ ap (λ (n : Network). opened_below n t n.count) same ∙ c.network_of.ensures.counted t has)
