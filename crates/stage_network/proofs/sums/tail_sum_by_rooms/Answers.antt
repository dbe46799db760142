use Rattle.std.proofs.Common.{ap, ◌∙◌}
use Rattle.networks.specs.declared.tail_sums.TailSum.{TailSum}
use Rattle.stage_network.proofs.Asked.{asked-extreme}
use Rattle.stage_network.proofs.Steady.{opened-alone}
use Rattle.stage_network.proofs.sums.tail_sum_by_rooms.Goals as goal

pub returns : goal.returns
returns g c =
    let n = g.S.Stages.network c.args.stages.now in
    record {
      sum = ap (λ (s : TailSum). s.sum) c.of.ensures ∙ c.in_ok-sums.ensures.sum c.args.tail ∙ asked-extreme c.only.result n c.args.tail c.only.ensures.asked;
      opened = ap (λ (s : TailSum). s.opened) c.of.ensures ∙ c.in_ok-sums.ensures.opened c.args.tail ∙ opened-alone c.only.result n c.args.tail c.only.ensures.asked c.only.ensures.alone;
    }
