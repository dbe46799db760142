use Rattle.std.proofs.Common.{subst, sym}
use Rattle.networks.specs.Lines.{TailsFit}
use Rattle.stage_network.proofs.DistributionLines.{spread-is}
use Rattle.stage_network.proofs.FittingLines.{tails-fit}
use Rattle.stage_network.proofs.answering.spread_by_walk.Goals as goal

pub returns-clause-lines : goal.returns-clause-lines
returns-clause-lines g c = spread-is (g.P.Plain.test c.args.problem.now) c.in_ok-found.found c.first_tail-tail.ensures.shown.weighty c.in_ok-found.ensures.sums

pub returns-clause-rules : goal.returns-clause-rules
returns-clause-rules g c =
    let test = g.P.Plain.test c.args.problem.now in
    subst (TailsFit test) (sym (spread-is test c.in_ok-found.found c.first_tail-tail.ensures.shown.weighty c.in_ok-found.ensures.sums)) (tails-fit test c.frame-frame.ensures.fits)
