use Rattle.std.proofs.Common.{refl, subst, sym}
use Rattle.weights.specs.Frames.{first_tail}
use Rattle.networks.specs.Follows.{Follows}
use Rattle.networks.specs.Lines.{TailsFit}
use Rattle.stage_network.proofs.FittingLines.{network-weighs, tails-fit}
use Rattle.stage_network.proofs.Following.{spread-follows}
use Rattle.stage_network.proofs.prepared.Prepared.quick_distribution.Goals as goal

pub returns : goal.returns
returns g c =
    let test = g.Self.Plain.test c.args.self.now in
    let n = g.Self.Built.Stages.network c.in_ok-stages.stages in
    let first = rw (c.has_tail.ensures.has, c.has_tail-2.ensures.has) at c.first_among-tail.ensures in
    let follows : Follows test (first_tail test) n = (rw first at c.in_ok-stages.ensures) (first_tail test) c.has_tail.ensures.shown.has refl in
    let lines = spread-follows test c.has_tail.ensures.shown n follows c.in_ok-found.found c.in_ok-found.ensures in
    record {
      lines = lines;
      weights = network-weighs n c.stages-lawful.ensures.lawful.fits c.in_ok-found.found c.in_ok-found.ensures;
      rules = subst (TailsFit test) (sym lines) (tails-fit test c.frame-frame.ensures.fits);
    }
