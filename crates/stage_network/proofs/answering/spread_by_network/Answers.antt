use Rattle.std.proofs.Common.{◌≡◌, ◌∙◌, ap, subst, sym}
use Rattle.weights.specs.Frames.{first_tail}
use Rattle.networks.specs.Follows.{Follows}
use Rattle.networks.specs.Lines.{TailsFit}
use Rattle.stage_network.proofs.FittingLines.{network-weighs, tails-fit}
use Rattle.stage_network.proofs.Following.{spread-follows}
use Rattle.stage_network.proofs.answering.spread_by_network.Goals as goal

pub network_of-requires : goal.network_of-requires
network_of-requires g c = rw c.first_tail-tail.ensures.first c.first_tail-tail.ensures.shown.has

pub returns-clause-lines : goal.returns-clause-lines
returns-clause-lines g c =
    let test = g.P.Plain.test c.args.problem.now in
    let runs = g.P.Prepared.running c.args.problem.now in
    let n = g.P.Built.Stages.network c.in_ok-stages.stages in
    let first = first_tail test in
    let shown = c.first_tail-tail.ensures.shown in
    let same : n ≡ runs first = c.in_ok-stages.ensures.built ∙ ap runs c.first_tail-tail.ensures.first in
    spread-follows test shown n (subst (Follows test first) (sym same) (c.network_of.ensures.follows first shown.has)) c.in_ok-found.found c.in_ok-found.ensures

pub returns-clause-weights : goal.returns-clause-weights
returns-clause-weights g c = network-weighs (g.P.Built.Stages.network c.in_ok-stages.stages) c.stages-lawful.ensures.lawful.fits c.in_ok-found.found c.in_ok-found.ensures

pub returns-clause-rules : goal.returns-clause-rules
returns-clause-rules g c =
    let test = g.P.Plain.test c.args.problem.now in
    subst (TailsFit test) (sym (returns-clause-lines g c)) (tails-fit test c.frame-frame.ensures.fits)
