use Rattle.std.proofs.Common.{◌∙◌}
use Rattle.stage_network.proofs.Asked.{asked-extreme}
use Rattle.stage_network.proofs.Steady.{opened-asked}
use Rattle.stage_network.proofs.sums.tail_sums_by_rooms.Goals as goal

pub returns : goal.returns
returns g c =
    let n = g.S.Stages.network c.args.stages.now in
    record {
      sum = λ t a. c.in_ok-sums.ensures.sum t ∙ asked-extreme c.args.tails n t a;
      opened = λ t a. c.in_ok-sums.ensures.opened t ∙ opened-asked c.args.tails n c.requires t a;
    }
